use Rattle.std.proofs.Common.{rules, arith, ◌≡◌, true, false, length, ap, ◌∙◌, sym, length-set}
use Rattle.std.proofs.lemmas.Grind.{common_steps}
use Rattle.nc_gens.proofs.Recording.{sees_generation, takes_word}
use Rattle.nc_gens.proofs.HandingTrail.{passes_out_recorded, passes_in_recorded}
use Rattle.nc_gens.proofs.table.Gens.meet.Goals as goal

pub split_seat-lent-requires : goal.split_seat-lent-requires
split_seat-lent-requires c = (
  search rules,
  search rules,
  passes_out_recorded _ _ c.pass.invariant.is_pass (λ h. let no : false ≡ true = sym c.pass.invariant.alone ∙ h in cc),
)

pub join_seat-requires : goal.join_seat-requires
join_seat-requires c =
    let lent = c.split_seat-lent.ensures.4 in (
      search rules,
      search rules,
      ap (λ m. m.1) lent,
      search rules,
      passes_in_recorded _ _ _ _ c.keeper.invariant.alone c.keeper.invariant.is_keeper (ap (λ m. m.0.is_pass) lent ∙ c.pass.invariant.is_pass) (ap (λ m. m.0.is_keeper) lent),
    )

pub load-requires : goal.load-requires
load-requires c =
    let lent = c.split_seat-lent.ensures.4 in
    let joint = c.join_seat.ensures.2 in
    let given = ap (λ m. m.0.given) joint in
    let all = c.keeper.invariant.all_given in
    let long = ap (λ m. length m.0.keeper.bounds) joint ∙ ap length c.keeper.invariant.bounds_are in (
      search rules,
      search rules,
      sees_generation _ _ _ (ap (λ m. m.0.is_pass) joint ∙ (ap (λ m. m.0.is_pass) lent ∙ c.pass.invariant.is_pass)) (λ _. omega arith),
    )

pub load-found-requires : goal.load-found-requires
load-found-requires c =
    let joint = c.join_seat.ensures.2 in
    let after = c.load.ensures.2.after in
    let is = c.keeper.invariant in
    let inside = c.pass.invariant.inside in
    let wide = is.wide in
    let same : c.load.new.seat.me.0.keeper.bounds ≡ c.keeper.inside.bounds.items = ap (λ m. m.0.keeper.bounds) after
    ∙ (ap (λ m. m.0.keeper.bounds) joint ∙ is.bounds_are) in
    let long = ap length same in
    let here : c.pass.inside.token.table_id.words ≡ c.keeper.inside.token.table_id.words = search rules in (
      search rules,
      search rules,
      takes_word _ _ _ _ (ap (λ m. m.0.is_keeper) after ∙ (ap (λ m. m.0.is_keeper) joint ∙ is.is_keeper))
          (omega arith),
    )

pub split_seat-requires : goal.split_seat-requires
split_seat-requires c =
    let lent = c.split_seat-lent.ensures.4 in
    let joint = c.join_seat.ensures.2 in
    let after = c.load.ensures.2.after in
    let found = c.load-found.ensures.2.after in
    let is = c.keeper.invariant in
    let given : c.load-found.new.seat.me.0.given ≡ length c.keeper.inside.bounds.items =
    ap (λ m. m.0.given) found ∙ (ap (λ m. m.0.given) after ∙ (ap (λ m. m.0.given) joint ∙ is.all_given)) in
    let before : length c.load.new.seat.me.0.keeper.bounds ≡ length c.keeper.inside.bounds.items =
    ap (λ m. length m.0.keeper.bounds) after ∙ (ap (λ m. length m.0.keeper.bounds) joint ∙ ap length is.bounds_are) in
    let long : length c.load-found.new.seat.me.0.keeper.bounds ≡ length c.load.new.seat.me.0.keeper.bounds =
    ap (λ m. length m.0.keeper.bounds) found ∙ length-set c.load.new.seat.me.0.keeper.bounds _ _ in (
      search rules,
      search rules,
      passes_out_recorded _ _ (ap (λ m. m.0.is_pass) found
          ∙ (ap (λ m. m.0.is_pass) after ∙ (ap (λ m. m.0.is_pass) joint ∙ (ap (λ m. m.0.is_pass) lent ∙ c.pass.invariant.is_pass))))
          (λ _. omega arith),
    )

pub invariant_of-keeper : goal.invariant_of-keeper
invariant_of-keeper c = grind (arith, common_steps)

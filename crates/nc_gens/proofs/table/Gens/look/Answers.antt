use Rattle.std.proofs.Common.{rules, arith, ◌≡◌, ℕ, [], ◌∷◌, length, map, refl, le_refl, sym, ap, subst, ◌∙◌}
use Rattle.std.specs.List.{range_with_len}
use Rattle.std.proofs.lemmas.List.FromFn.{map-range_with_len_more}
use Rattle.nc_gens.specs.declared.view.WordStep.TheVariants.{TookWord}
use Rattle.nc_gens.specs.Trail.{Adds, is_by_keeper, numbers_by}
use Rattle.nc_gens.specs.Seen.{IsLedTo}
use Rattle.nc_gens.proofs.Trails.{adds_none, adds_both}
use Rattle.nc_gens.proofs.Loads.{looked_found}
use Rattle.std.proofs.lemmas.Grind.{common_steps}
use Rattle.nc_gens.proofs.table.Gens.look.Goals as goal

pub loop-seat-init : goal.loop-seat-init
loop-seat-init c =
    let is = c.keeper.invariant in
    let led : c.keeper.inside.token.me.0.keeper ≡ (numbers_by (length c.keeper.inside.token.me.0.keeper.bounds) c.keeper.inside.token.me.0.keeper_trail).keeper =
    is.led_to ∙ ap (λ (z : ℕ). (numbers_by z c.keeper.inside.token.me.0.keeper_trail).keeper) (is.seats_are ∙ sym (ap length is.bounds_are)) in (
      refl,
      refl,
      (refl, λ i inside. le_refl _),
      refl,
      λ k low inside. absurd (omega arith),
      λ k low. refl,
      adds_none is_by_keeper c.args.keeper.now.trail,
      subst IsLedTo c.keeper.view_is led,
      λ some. absurd (omega arith),
    )

pub loop-seat-preserved : goal.loop-seat-preserved
loop-seat-preserved c =
    let i = c.loop-seat.invariant in
    let one = c.look_at.ensures in (
      search rules,
      search rules,
      search rules,
      search rules,
      search rules,
      search rules,
      subst (Adds is_by_keeper c.args.keeper.now.trail c.look_at.new.keeper.trail) (sym (map-range_with_len_more TookWord 0 c.loop-seat.seat c.loop-seat.seat (omega arith)))
          (adds_both is_by_keeper c.args.keeper.now.trail c.loop-seat.keeper.trail c.look_at.new.keeper.trail
          (map TookWord (range_with_len 0 c.loop-seat.seat)) (TookWord c.loop-seat.seat ∷ []) i.6 one.stepped.adds),
      one.led_to,
      λ _. one.rising,
    )

pub returns-clause-looked : goal.returns-clause-looked
returns-clause-looked c =
    let i = c.loop-seat.invariant in
    let end : c.loop-seat.seat ≡ length c.loop-seat.keeper.numbers.bounds =
    let a = c.loop-seat-test.false in
    let b = c.loop-seat.auto.seat-end in
    let d = c.len-seat-end.ensures.value in
    let e = i.2.0 in
    let f = ap (λ k. length k.numbers.bounds) c.keeper.view_is in
    let g = ap length c.keeper.invariant.bounds_are in omega arith in
    let adds : Adds is_by_keeper c.args.keeper.now.trail c.loop-seat.keeper.trail
    (map TookWord (range_with_len 0 (length c.loop-seat.keeper.numbers.bounds))) =
    subst (λ (z : ℕ). Adds is_by_keeper c.args.keeper.now.trail c.loop-seat.keeper.trail (map TookWord (range_with_len 0 z))) end i.6 in
    record {
      table = i.0;
      generation = i.1;
      looks = search rules;
      counted = search rules;
      raised = i.2;
      steps = record {
        adds = adds;
        seats = i.2.0;
        led_to = λ _. i.7;
      };
      led_to = i.7;
      rising = i.8 (let few = c.keeper.invariant.few in let wide = c.keeper.invariant.wide in
          let g = ap length c.keeper.invariant.bounds_are in let f = ap (λ k. length k.numbers.bounds) c.keeper.view_is in
          let e = i.2.0 in omega arith);
      found = λ k inside. looked_found c.args.keeper.now c.loop-seat.keeper k adds i.7 inside;
    }

pub least_bound-requires : goal.least_bound-requires
least_bound-requires c = grind (arith, common_steps)

use Rattle.std.proofs.Common.{rules, arith, ◌≡◌, ℕ, ◌+◌, ◌-◌, List, [], ◌∷◌, sym, ap, subst, ◌∙◌}
use Rattle.nc_gens.specs.declared.view.WordStep.{WordStep}
use Rattle.nc_gens.specs.declared.view.WordStep.TheVariants.{TookGeneration, StoredSince}
use Rattle.nc_gens.specs.Trail.{Adds, is_by_pass, numbers_by, pass_in}
use Rattle.nc_gens.proofs.Trails.{adds_both}
use Rattle.nc_gens.proofs.Recording.{takes_generation, stores_since}
use Rattle.nc_gens.proofs.table.Gens.check_in.Goals as goal

pub load-generation-requires : goal.load-generation-requires
load-generation-requires c = (search rules, search rules, takes_generation _ _ _ c.pass.invariant.is_pass c.pass.invariant.alone)

pub store-requires : goal.store-requires
store-requires c =
    let is = c.pass.invariant in
    let took = c.load-generation.ensures.2 in
    let rises = took.rises in
    let since_is : c.load-generation.new.seat.me.0.pass.since ≡ c.load-generation.result = ap (λ m. m.0.pass.since) took.after in
    let word_is : c.load-generation.new.seat.me.0.pass.word ≡ c.pass.inside.token.me.0.pass.word = ap (λ m. m.0.pass.word) took.after in (
      search rules,
      search rules,
      stores_since _ _ _ _ _ (ap (λ m. m.0.is_pass) took.after ∙ is.is_pass) (ap (λ m. m.0.is_keeper) took.after ∙ is.alone)
          (ap (λ m. m.0.seat + 1) took.after ∙ ap (λ k. k + 1) is.seat_is)
          (sym since_is) (let a = is.published in let b = is.saw in omega arith) took.in_range,
    )

pub returns : goal.returns
returns c =
    let is = c.pass.invariant in
    let took = c.load-generation.ensures.2 in
    let stored = c.store.ensures.2 in
    let before = c.pass.inside.token.me.0 in
    let between = c.load-generation.new.seat.me.0 in
    let after = c.store.new.seat.me.0 in
    let seat : between.seat ≡ before.seat = ap (λ m. m.0.seat) took.after in
    let seats : between.seats ≡ before.seats = ap (λ m. m.0.seats) took.after in
    let here : before.seat ≡ c.args.pass.now.seat = search rules in
    let known : before.pass_trail ≡ c.args.pass.now.trail = ap (λ p. p.trail) c.pass.view_is in
    let many : before.seats ≡ c.args.pass.now.table.words - 1 = search rules in
    let second : Adds (is_by_pass before.seat) between.pass_trail after.pass_trail (StoredSince before.seat ∷ []) =
    subst (λ (z : ℕ). Adds (is_by_pass z) between.pass_trail after.pass_trail (StoredSince z ∷ [])) seat stored.stepped.adds in
    let both : Adds (is_by_pass before.seat) before.pass_trail after.pass_trail (TookGeneration before.seat ∷ StoredSince before.seat ∷ []) =
    adds_both (is_by_pass before.seat) before.pass_trail between.pass_trail after.pass_trail (TookGeneration before.seat ∷ [])
    (StoredSince before.seat ∷ []) took.stepped.adds second in
    let leads : after.pass ≡ pass_in (numbers_by before.seats after.pass_trail) before.seat =
    stored.stepped.numbers ∙ (λ i. pass_in (numbers_by (seats i) after.pass_trail) (seat i)) in
    record {
      checked_in = record {
        same = search rules;
        numbers = search rules;
        loads = search rules;
        published = search rules;
        rises = search rules;
        catches_up = search rules;
        steps = record {
          adds = subst (λ (t : ℕ × List WordStep). Adds (is_by_pass t.0) t.1 after.pass_trail (TookGeneration t.0 ∷ StoredSince t.0 ∷ []))
              (λ i. (here i, known i)) both;
          led_to = leads ∙ (λ i. pass_in (numbers_by (many i) after.pass_trail) (here i));
        };
      };
    }

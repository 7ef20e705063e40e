use Rattle.std.proofs.Common.{◌≡◌, ◌+◌, ◌*◌, [], ◌∷◌, get_or, arith, refl}
use Rattle.std.proofs.lemmas.Grind.{common_steps}
use Rattle.nc_decode.specs.declared.automaton.TheConstants.{END}
use Rattle.nc_decode.specs.Automaton.{next_state}
use Rattle.nc_vet.proofs.EightRuns.{eight_each, put_at, next_by, have_stepped}
use Rattle.nc_vet.proofs.lanes.run_eight.Goals as goal

pub loop-i-init : goal.loop-i-init
loop-i-init c = record {
  place = refl;
  run = record {
    now = eight_each (λ n s. s ≡ END) _ _ _ _ _ _ _ _ c.start-a.ensures c.start-b.ensures c.start-c.ensures c.start-d.ensures c.start-e.ensures
        c.start-f.ensures c.start-g.ensures c.start-h.ensures;
    each = λ n k lt k-lt. absurd (omega (arith, k-lt));
    long = c.told-states;
  };
}

pub step_at-f-requires : goal.step_at-f-requires
step_at-f-requires c = grind (arith, common_steps)

pub overflow_add-place-in-loop-i-6 : goal.overflow_add-place-in-loop-i-6
overflow_add-place-in-loop-i-6 c = grind (arith, common_steps)

pub loop-i-preserved : goal.loop-i-preserved
loop-i-preserved c = record {
  place = omega (arith, c.loop-i.invariant.place, c.requires.stride);
  run = have_stepped c.args.code.now c.args.at c.loop-i.i (c.loop-i.a ∷ c.loop-i.b ∷ c.loop-i.c ∷ c.loop-i.d ∷ c.loop-i.e ∷ c.loop-i.f ∷ c.loop-i.g ∷ c.loop-i.h ∷ []) c.loop-i.states (c.step_at-a.result ∷ c.step_at-b.result ∷ c.step_at-c.result ∷ c.step_at-d.result ∷ c.step_at-e.result ∷ c.step_at-f.result ∷ c.step_at-g.result ∷ c.step_at-h.result ∷ []) c.step_at-h.new.states
      c.requires.start (omega arith) c.requires.room c.loop-i.invariant.run refl
      (eight_each (λ n s. s ≡ next_state (get_or (c.loop-i.a ∷ c.loop-i.b ∷ c.loop-i.c ∷ c.loop-i.d ∷ c.loop-i.e ∷ c.loop-i.f ∷ c.loop-i.g ∷ c.loop-i.h ∷ []) n 0) (get_or c.args.code.now (c.args.at + 32 * n + c.loop-i.i) 0)) _ _ _ _ _ _ _ _
      (next_by c.args.code.now _ _ _ (c.args.at + 32 * 0 + c.loop-i.i) c.step_at-a.ensures.state (omega arith))
      (next_by c.args.code.now _ _ _ (c.args.at + 32 * 1 + c.loop-i.i) c.step_at-b.ensures.state (omega arith))
      (next_by c.args.code.now _ _ _ (c.args.at + 32 * 2 + c.loop-i.i) c.step_at-c.ensures.state (omega arith))
      (next_by c.args.code.now _ _ _ (c.args.at + 32 * 3 + c.loop-i.i) c.step_at-d.ensures.state (omega arith))
      (next_by c.args.code.now _ _ _ (c.args.at + 32 * 4 + c.loop-i.i) c.step_at-e.ensures.state (omega arith))
      (next_by c.args.code.now _ _ _ (c.args.at + 32 * 5 + c.loop-i.i) c.step_at-f.ensures.state (omega arith))
      (next_by c.args.code.now _ _ _ (c.args.at + 32 * 6 + c.loop-i.i) c.step_at-g.ensures.state (omega arith))
      (next_by c.args.code.now _ _ _ (c.args.at + 32 * 7 + c.loop-i.i) c.step_at-h.ensures.state (omega arith))) (
        c.step_at-a.new.states,
        put_at c.loop-i.states _ _ _ _ _ c.step_at-a.ensures.states c.step_at-a.ensures.state (omega (arith, c.loop-i.invariant.place)),
        (
          c.step_at-b.new.states,
          put_at c.step_at-a.new.states _ _ _ _ _ c.step_at-b.ensures.states c.step_at-b.ensures.state (omega (arith, c.loop-i.invariant.place)),
          (
            c.step_at-c.new.states,
            put_at c.step_at-b.new.states _ _ _ _ _ c.step_at-c.ensures.states c.step_at-c.ensures.state (omega (arith, c.loop-i.invariant.place)),
            (
              c.step_at-d.new.states,
              put_at c.step_at-c.new.states _ _ _ _ _ c.step_at-d.ensures.states c.step_at-d.ensures.state (omega (arith, c.loop-i.invariant.place)),
              (
                c.step_at-e.new.states,
                put_at c.step_at-d.new.states _ _ _ _ _ c.step_at-e.ensures.states c.step_at-e.ensures.state (omega (arith, c.loop-i.invariant.place)),
                (
                  c.step_at-f.new.states,
                  put_at c.step_at-e.new.states _ _ _ _ _ c.step_at-f.ensures.states c.step_at-f.ensures.state (omega (arith, c.loop-i.invariant.place)),
                  (
                    c.step_at-g.new.states,
                    put_at c.step_at-f.new.states _ _ _ _ _ c.step_at-g.ensures.states c.step_at-g.ensures.state (omega (arith, c.loop-i.invariant.place)),
                    (
                      c.step_at-h.new.states,
                      put_at c.step_at-g.new.states _ _ _ _ _ c.step_at-h.ensures.states c.step_at-h.ensures.state (omega (arith, c.loop-i.invariant.place)),
                      refl,
                    ),
                  ),
                ),
              ),
            ),
          ),
        ),
      );
}

pub returns : goal.returns
returns c = λ n k lt k-lt. c.loop-i.invariant.run.each n k lt (omega (arith, k-lt, c.loop-i-test.false))

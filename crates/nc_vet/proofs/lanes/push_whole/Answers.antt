use Rattle.std.proofs.Common.{◌≡◌, ◌*◌, ◌++◌, [], ◌∷◌, vec_len, rules, arith, refl, ◌∙◌}
use Rattle.std.specs.Int.{bit_at}
use Rattle.std.proofs.lemmas.Nat.Bits.{shr_and_one, bit_at-lt}
use Rattle.nc_vet.proofs.RunStates.{told_next, moved}
use Rattle.nc_vet.proofs.EightRuns.{lane_told}
use Rattle.nc_vet.proofs.lanes.push_whole.Goals as goal

pub loop-n-init : goal.loop-n-init
loop-n-init c = record { told = c.requires.told; count = omega arith; room = refl }

pub returns-then-bundle-eq0-clause-told : goal.returns-then-bundle-eq0-clause-told
returns-then-bundle-eq0-clause-told c = c.loop-n.invariant.told

pub returns-then-bundle-eq0-clause-stop : goal.returns-then-bundle-eq0-clause-stop
returns-then-bundle-eq0-clause-stop c =
    moved c.args.code.now _ _ _ (omega (arith, c.loop-n.invariant.count))
    (lane_told c.args.code.now (32 * vec_len c.args.bundles.now) c.loop-n.n c.args.states.now c.bits_of_states-bundle.result
    c.loop-n-test.true c.requires.states c.bits_of_states-bundle.ensures)

pub returns-then-bundle-eq0-clause-within : goal.returns-then-bundle-eq0-clause-within
returns-then-bundle-eq0-clause-within c = omega (arith, c.loop-n.invariant.count, c.loop-n-test.true)

pub push_reserved-requires : goal.push_reserved-requires
push_reserved-requires c = omega (arith, c.loop-n.invariant.count, c.loop-n.invariant.room, c.requires.room, c.loop-n-test.true)

pub loop-n-preserved : goal.loop-n-preserved
loop-n-preserved c =
    let items : c.push_reserved.new.self.items ≡ c.loop-n.bundles.items ++ c.bits_of_states-bundle.result ∷ [] =
    search (rules, c.push_reserved.ensures.items) in
    let set : bit_at c.bits_of_states-bundle.result.ends 31 ≡ 1 = omega
    (arith, shr_and_one c.bits_of_states-bundle.result.ends 31, bit_at-lt c.bits_of_states-bundle.result.ends 31, c.if-bundle-eq0.false) in
    let tells = lane_told c.args.code.now (32 * vec_len c.args.bundles.now) c.loop-n.n c.args.states.now c.bits_of_states-bundle.result
    c.loop-n-test.true c.requires.states c.bits_of_states-bundle.ensures in
    let w = told_next c.args.code.now c.loop-n.bundles.items c.push_reserved.new.self.items c.bits_of_states-bundle.result
    c.loop-n.invariant.told items
    (moved c.args.code.now _ _ _ (omega (arith, c.loop-n.invariant.count, c.loop-n.bundles.ok.0)) tells) set in
    record {
      told = w.0;
      count = omega (arith, w.1, c.loop-n.invariant.count, c.loop-n.bundles.ok.0, c.push_reserved.new.self.ok.0);
      room = c.push_reserved.ensures.capacity ∙ c.loop-n.invariant.room;
    }

pub returns-clause-told : goal.returns-clause-told
returns-clause-told c = c.loop-n.invariant.told

pub returns-clause-all : goal.returns-clause-all
returns-clause-all c = omega (arith, c.loop-n.invariant.count, c.loop-n-test.false, c.loop-n.auto.n-end)

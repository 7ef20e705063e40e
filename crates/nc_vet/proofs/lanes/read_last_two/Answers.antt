use Rattle.std.proofs.Common.{◌≡◌, ◌++◌, ◌∷◌, [], rules, arith}
use Rattle.std.specs.Int.{bit_at}
use Rattle.std.proofs.lemmas.Nat.Bits.{shr_and_one, bit_at-lt}
use Rattle.nc_vet.proofs.RunStates.{told_next, moved}
use Rattle.nc_vet.proofs.lanes.read_last_two.Goals as goal

pub with_last-requires-clause-told : goal.with_last-requires-clause-told
with_last-requires-clause-told c =
    let items : c.push.new.self.items ≡ c.args.bundles.items ++ c.read_two.result.0 ∷ [] = search (rules, c.push.ensures.items) in
    let set : bit_at c.read_two.result.0.ends 31 ≡ 1 = omega
    (arith, shr_and_one c.read_two.result.0.ends 31, bit_at-lt c.read_two.result.0.ends 31, c.if-first-eq0.false) in
    (told_next c.args.code.now c.args.bundles.items c.push.new.self.items c.read_two.result.0 c.requires.told items
    (moved c.args.code.now _ _ _ (omega (arith, c.requires.place, c.args.bundles.ok.0)) c.read_two.ensures.first) set).0

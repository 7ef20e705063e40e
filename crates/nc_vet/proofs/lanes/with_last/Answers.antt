use Rattle.std.proofs.Common.{◌≡◌, ◌++◌, ◌∷◌, [], rules, arith}
use Rattle.std.specs.Int.{bit_at}
use Rattle.std.proofs.lemmas.Nat.Bits.{shr_and_one, bit_at-lt}
use Rattle.nc_vet.proofs.RunStates.{told_last, moved}
use Rattle.nc_vet.proofs.lanes.with_last.Goals as goal

pub returns : goal.returns
returns c =
    let items : c.push.new.self.items ≡ c.args.bundles.items ++ c.args.last ∷ [] = search (rules, c.push.ensures.items) in
    let set : bit_at c.args.last.ends 31 ≡ 1 = omega
    (arith, shr_and_one c.args.last.ends 31, bit_at-lt c.args.last.ends 31, c.if-last-eq0.false) in
    told_last c.args.code.now c.args.bundles.items c.push.new.self.items c.args.last c.requires.told items
    (moved c.args.code.now _ _ _ (omega (arith, c.args.bundles.ok.0)) c.requires.last) set
    (omega (arith, c.requires.place, c.args.bundles.ok.0))

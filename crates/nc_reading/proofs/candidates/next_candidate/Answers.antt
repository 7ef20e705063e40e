use Rattle.std.proofs.Common.{ℕ, ◌+◌, ◌-◌, ◌/◌, ◌%◌, ◌^◌, ◌<◌, get_or, refl, sym, ap, ◌∙◌, arith, slice_index}
use Rattle.std.specs.Int.{bit_at}
use Rattle.std.proofs.Math.Nat.{div-le_self}
use Rattle.std.proofs.lemmas.Nat.Bits.{bit_at-zero}
use Rattle.nc_reading.specs.declared.class.Class.TheVariants.{Inside}
use Rattle.nc_reading.specs.Quiet.{is_quiet}
use Rattle.nc_reading.proofs.MarkBits.{bit_below, quiet_from}
use Rattle.nc_decode.proofs.Offered.{bit_passed}
use Rattle.nc_reading.proofs.candidates.next_candidate.Goals as goal

pub returns-then-left-ne0-clause-quiet : goal.returns-then-left-ne0-clause-quiet
returns-then-left-ne0-clause-quiet c =
    let at = c.loop-at.at in
    let k = at % 32 in
    let bits = c.look.result in
    let left = bits / 2 ^ k in
    let small : left < 2 ^ 32 = omega (arith, div-le_self bits (2 ^ k), c.look.type_inv) in
    quiet_from (λ j. is_quiet (get_or c.args.classes.now j Inside) (slice_index c.args.code.now j)) bits c.args.from at (at + c.min.result) k
    (refl, omega (arith, c.min.ensures)) c.loop-at.invariant.quiet c.look.ensures.bits
    (λ i lt. sym (bit_passed bits k i) ∙ bit_below left i c.if-left-ne0.true small (omega (arith, c.min.ensures, lt)))

pub loop-at-preserved : goal.loop-at-preserved
loop-at-preserved c =
    let at = c.loop-at.at in
    let k = at % 32 in
    record {
      low = omega (arith, c.loop-at.invariant.low);
      within = omega (arith, c.requires.bundles, c.loop-at-test.true);
      known = c.look.ensures.known;
      quiet = quiet_from (λ j. is_quiet (get_or c.args.classes.now j Inside) (slice_index c.args.code.now j)) c.look.result (c.args.from) at (at + (32 - k)) k
          (refl, omega arith) c.loop-at.invariant.quiet c.look.ensures.bits
          (λ i lt. sym (bit_passed c.look.result k i) ∙ ap (λ (n : ℕ). bit_at n i) c.if-left-ne0.false ∙ bit_at-zero i);
    }

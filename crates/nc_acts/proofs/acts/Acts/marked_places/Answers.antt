use Rattle.std.proofs.Common.{◌≡◌, ℕ, ◌+◌, ◌-◌, ◌*◌, ◌<◌, ◌^◌, zero, suc, arith, ap, ◌∙◌}
use Rattle.std.specs.Int.{bit_at}
use Rattle.std.proofs.Math.Nat.{pow-succ'}
use Rattle.nc_decode.specs.Bits.{mark_bit}
use Rattle.nc_text.specs.Marks.{mark_at}
use Rattle.nc_text.proofs.Offered.{doubled_low, doubled_high}
use Rattle.nc_acts.proofs.SoFar.{small_mark_bit}
use Rattle.nc_acts.proofs.acts.Acts.marked_places.Goals as goal

pub mark-requires : goal.mark-requires
mark-requires g c = (omega (arith, c.requires.inside.0), omega (arith, c.requires.inside.1, c.requires.start, c.limit-facts.ensures.whole.lawful.0))

pub loop-n-preserved : goal.loop-n-preserved
loop-n-preserved g c =
    record {
      small = omega (arith, c.loop-n.invariant.small, bit_is, pow_more c.loop-n.n);
      bits = λ k lt. at k lt;
    }
  where
    pow_more : (m : ℕ) → 2 ^ (m + 1) ≡ 2 * 2 ^ m
    pow_more m = ap (λ (j : ℕ). 2 ^ j) {x = m + 1} {y = suc m} (omega arith) ∙ pow-succ' 2 m

    bit_is : c.mark_bit.result < 2
    bit_is = omega (arith, c.mark_bit.ensures, small_mark_bit c.mark.result)

    at : (k : ℕ) → k < c.loop-n.n + 1 → bit_at (2 * c.loop-n.places + c.mark_bit.result) k
        ≡ mark_bit (mark_at (g.Self.Acts.marked c.args.self.now).marks (c.args.at + (32 - (c.loop-n.n + 1) + k)))
    at zero lt = doubled_low c.loop-n.places c.mark_bit.result bit_is
        ∙ (c.mark_bit.ensures ∙ (ap mark_bit c.mark.ensures
        ∙ ap (λ (j : ℕ). mark_bit (mark_at (g.Self.Acts.marked c.args.self.now).marks j)) (omega (arith, c.loop-n-test.true))))
    at (suc k) lt = doubled_high c.loop-n.places c.mark_bit.result k bit_is
        ∙ (c.loop-n.invariant.bits k (omega (arith, lt))
        ∙ ap (λ (j : ℕ). mark_bit (mark_at (g.Self.Acts.marked c.args.self.now).marks j)) (omega (arith, c.loop-n-test.true)))

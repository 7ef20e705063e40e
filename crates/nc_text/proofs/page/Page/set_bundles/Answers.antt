use Rattle.std.proofs.Common.{◌≡◌, ℕ, ◌+◌, ◌*◌, ◌/◌, ◌%◌, ◌<◌, List, get_or, arith, subst, ap, ◌∙◌}
use Rattle.std.specs.Prelude.{slice_index}
use Rattle.nc_decode.specs.declared.bundle.Bundle.{Bundle}
use Rattle.nc_decode.specs.declared.instruction.Mark.{Mark}
use Rattle.nc_decode.specs.Bits.{no_bits, bit_mark, mark_by_bits}
use Rattle.nc_text.specs.machinery.Pages.{mark_on}
use Rattle.nc_text.proofs.Spans.{IsSetUpTo, one_part_more}
use Rattle.nc_text.proofs.page.Page.set_bundles.Goals as goal

-- the mark of a place by the bits of its bundle
in_its_bundle : (code : List ℕ) (bundles : List Bundle) (from n k : ℕ) (w : Bundle) → w ≡ get_or bundles (from / 32 + n) no_bits
    → from % 32 ≡ 0 → k < 32 → bit_mark w k (slice_index code (from + 32 * n + k + 1)) ≡ mark_by_bits code bundles (from + (32 * n + k))
in_its_bundle code bundles from n k w is start lt =
    ap (λ (v : Bundle). bit_mark v k (slice_index code (from + 32 * n + k + 1))) is
    ∙ (ap (λ (m : ℕ). bit_mark (get_or bundles m no_bits) k (slice_index code (from + 32 * n + k + 1)))
    {x = from / 32 + n} {y = (from + (32 * n + k)) / 32} (omega (arith, start, lt))
    ∙ (ap (λ (m : ℕ). bit_mark (get_or bundles ((from + (32 * n + k)) / 32) no_bits) m (slice_index code (from + 32 * n + k + 1)))
    {x = k} {y = (from + (32 * n + k)) % 32} (omega (arith, start, lt))
    ∙ ap (λ (m : ℕ). bit_mark (get_or bundles ((from + (32 * n + k)) / 32) no_bits) ((from + (32 * n + k)) % 32) (slice_index code m))
    {x = from + 32 * n + k + 1} {y = from + (32 * n + k) + 1} (omega arith)))

pub loop-n-preserved : goal.loop-n-preserved
loop-n-preserved c =
    let so = c.loop-n.invariant in
    let n = c.loop-n.n in
    let up : 32 * n + 32 ≡ 32 * (n + 1) = omega arith in
    let code = c.args.code.now in
    let bundles = c.args.bundles.now in
    let given : ℕ → Mark = λ j. mark_by_bits code bundles (c.args.from + j) in
    record {
      marks = subst (λ (m : ℕ). IsSetUpTo given c.args.at m (mark_on c.args.self.now) (mark_on c.set_bundle.new.self)) up
          (one_part_more so.marks (mark_on c.set_bundle.new.self) 32 (λ k lt. c.set_bundle.ensures.within k lt
          ∙ (c.of_bits-masks.ensures k lt ∙ in_its_bundle code bundles c.args.from n k _ c.bundle_at-bundle.ensures c.requires.from lt))
          c.set_bundle.ensures.others);
      bytes = λ k. c.set_bundle.ensures.bytes k ∙ so.bytes k;
    }

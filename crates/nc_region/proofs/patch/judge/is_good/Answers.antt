use Rattle.std.proofs.Common.{◌≡◌, ◌-◌, ◌<◌, length, sym, ◌∙◌, arith}
use Rattle.nc_text.specs.Places.{limit_of}
use Rattle.nc_vet.proofs.Offered.{valid_len, target_inside, plain_inside}
use Rattle.nc_region.proofs.patch.judge.is_good.Goals as goal

pub returns-then-to-chunk : goal.returns-then-to-chunk
returns-then-to-chunk g c = record {
  exact = λ h.
      let limit = limit_of (g.A.Acts.marked c.args.acts.now).bytes in
      let len : length h.vetted.marks ≡ c.args.chunk.length = valid_len h.vetted h.valid ∙ h.long in
      let lt : c.args.to - c.args.chunk.base < length h.vetted.marks = omega (arith, len, c.if-to-chunk.true) in
      let there = h.marks_are c.args.to (c.if-chunk-to.true, omega (arith, c.if-to-chunk.true, c.if-chunk-to.true)) in (
        λ true. target_inside c.args.chunk.base
            (limit_of (g.A.Acts.marked c.args.acts.now).bytes) c.args.to h.valid.pieces h.vetted.marks h.valid.marks_are
            h.valid.sound.spelled c.if-chunk-to.true lt (sym there ∙ (sym c.mark.ensures ∙ c.is_plain.ensures.0 true)),
        λ t. c.is_plain.ensures.1 (c.mark.ensures
            ∙ (there ∙ plain_inside c.args.chunk.base
            (limit_of (g.A.Acts.marked c.args.acts.now).bytes) c.args.to h.valid.pieces h.vetted.marks h.valid.marks_are
            h.valid.sound.spelled c.if-chunk-to.true lt t)),
      );
}

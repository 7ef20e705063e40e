use Rattle.std.proofs.Common.{◌≡◌, ℕ, ◌+◌, ◌-◌, ◌%◌, sym, ◌∙◌, ap, arith}
use Rattle.nc_decode.specs.declared.instruction.Instr.{Instr}
use Rattle.nc_decode.specs.Bits.{mark_bit}
use Rattle.nc_text.specs.Marks.{mark_at}
use Rattle.nc_base.proofs.Offered.{some_same}
use Rattle.nc_region.proofs.patching.Standing.{standing}
use Rattle.nc_region.proofs.patching.Lengths.{NextMark, no_mark, is_mark, ends_at_next}
use Rattle.nc_region.proofs.patch.judge.length_at.Goals as goal

pub returns : goal.returns
returns g c = λ i is.
    let marked = g.A.Acts.marked c.args.acts.now in
    let b = c.requires.begins in
    let s = standing marked c.args.chunk c.args.at c.requires.whole b c.requires.inside in
    let n : NextMark (g.A.Acts.marked c.args.acts.now) c.args.at c.steps_to_next.result =
    record {
      some = c.steps_to_next.ensures.some;
      inside = c.steps_to_next.ensures.inside;
      between = λ k some lt.
          let e : c.args.at - c.args.at % 32 + (c.args.at % 32 + k) ≡ c.args.at + k = omega arith in
          no_mark (mark_at marked.marks (c.args.at + k))
          (ap (λ (j : ℕ). mark_bit (mark_at marked.marks j)) (sym e)
          ∙ (sym (c.marked_places.ensures (c.args.at % 32 + k) (omega (arith, lt, c.steps_to_next.ensures.inside)))
          ∙ c.steps_to_next.ensures.between k some lt));
      next = λ lt.
          let e : c.args.at - c.args.at % 32 + (c.args.at % 32 + c.steps_to_next.result) ≡ c.args.at + c.steps_to_next.result = omega arith in
          is_mark (mark_at marked.marks (c.args.at + c.steps_to_next.result))
          (ap (λ (j : ℕ). mark_bit (mark_at marked.marks j)) (sym e)
          ∙ (sym (c.marked_places.ensures (c.args.at % 32 + c.steps_to_next.result) (omega (arith, lt)))
          ∙ c.steps_to_next.ensures.next lt));
    } in
    ends_at_next marked c.args.chunk c.args.at c.requires.whole b s c.steps_to_next.result n
    ∙ ap (λ (j : Instr). j.len) (some_same _ _ _ s.instr is)

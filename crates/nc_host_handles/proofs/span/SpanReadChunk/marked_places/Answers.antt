use Rattle.std.proofs.Common.{ℕ, ◌+◌, arith, ap, ◌∙◌}
use Rattle.nc_decode.specs.Bits.{mark_bit}
use Rattle.nc_text.specs.Marks.{mark_at}
use Rattle.nc_text.specs.MarkedText.{MarkedText}
use Rattle.nc_host_handles.proofs.SpanReads.{span_long, span_high}
use Rattle.nc_host_handles.proofs.span.SpanReadChunk.marked_places.Goals as goal

pub overflow_add-self : goal.overflow_add-self
overflow_add-self c =
    omega (arith, c.requires.within, span_high c.args.self.now.region.now.marked.bytes _ _ c.args.self.now.placed)

pub marked_places-requires-clause-inside : goal.marked_places-requires-clause-inside
marked_places-requires-clause-inside c =
    let span = c.args.self.now in
    let within = span_long span.region.now.marked.bytes span.base span.length span.placed in
    rw c.acts.ensures.marked (omega (arith, span.placed.low), omega (arith, c.requires.within, within, span.placed.high))

pub marked_places-requires-clause-start : goal.marked_places-requires-clause-start
marked_places-requires-clause-start c = omega (arith, c.args.self.now.placed.start, c.requires.start)

pub returns : goal.returns
returns c = λ k lt.
    let span = c.args.self.now in
    c.marked_places.ensures k lt
    ∙ (ap (λ (m : MarkedText). mark_bit (mark_at m.marks (span.base + c.args.i + k))) c.acts.ensures.marked
    ∙ ap (λ (n : ℕ). mark_bit (mark_at span.region.now.marked.marks n)) {x = span.base + c.args.i + k} {y = span.base + (c.args.i + k)} (omega arith))

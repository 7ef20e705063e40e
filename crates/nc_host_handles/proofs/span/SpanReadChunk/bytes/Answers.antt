use Rattle.std.proofs.Common.{ℕ, ◌+◌, arith, ap, ◌∙◌}
use Rattle.std.proofs.lemmas.Grind.{common_steps}
use Rattle.nc_text.specs.Places.{byte_at}
use Rattle.nc_text.specs.MarkedText.{MarkedText}
use Rattle.nc_host_handles.proofs.SpanReads.{span_long, span_high, span_byte}
use Rattle.nc_host_handles.proofs.span.SpanReadChunk.bytes.Goals as goal

pub overflow_cast-i : goal.overflow_cast-i
overflow_cast-i c = grind (arith, common_steps)

pub overflow_add-self : goal.overflow_add-self
overflow_add-self c =
    omega (arith, c.requires.within, span_high c.args.self.now.region.now.marked.bytes _ _ c.args.self.now.placed)

pub read_run-requires-clause-inside : goal.read_run-requires-clause-inside
read_run-requires-clause-inside c =
    let span = c.args.self.now in
    let within = span_long span.region.now.marked.bytes span.base span.length span.placed in
    rw (c.text.ensures.marked ∙ c.acts.ensures.marked) (omega (arith, span.placed.low), omega (arith, c.requires.within, within, span.placed.high))

pub read_run-requires-clause-one_bundle : goal.read_run-requires-clause-one_bundle
read_run-requires-clause-one_bundle c = omega (arith, c.args.self.now.placed.start, c.requires.start)

pub returns-clause-bytes : goal.returns-clause-bytes
returns-clause-bytes c = λ k lt.
    let span = c.args.self.now in
    let text = span.region.now.marked.bytes in
    let within = span_long text span.base span.length span.placed in
    c.read_run.ensures k lt
    ∙ (ap (λ (m : MarkedText). byte_at m.bytes (span.base + c.args.i + k)) (c.text.ensures.marked ∙ c.acts.ensures.marked)
    ∙ (ap (λ (n : ℕ). byte_at text n) {x = span.base + c.args.i + k} {y = span.base + (c.args.i + k)} (omega arith)
    ∙ span_byte text span.base span.length (c.args.i + k) span.placed (omega (arith, c.requires.within, within, lt))))

use Rattle.std.proofs.Common.{arith, ◌∙◌}
use Rattle.std.proofs.lemmas.Grind.{common_steps}
use Rattle.nc_host_handles.proofs.SpanReads.{span_long, span_byte}
use Rattle.nc_host_handles.proofs.span.SpanReadChunk.byte.Goals as goal

pub overflow_cast-i : goal.overflow_cast-i
overflow_cast-i c = grind (arith, common_steps)

pub overflow_add-self : goal.overflow_add-self
overflow_add-self c =
    let span = c.args.self.now in
    let placed = span.placed in
    omega (arith, c.requires, span_long span.region.now.marked.bytes span.base span.length placed, placed.high, placed.lawful.2)

pub byte-requires : goal.byte-requires
byte-requires c =
    let span = c.args.self.now in
    let placed = span.placed in
    let within = span_long span.region.now.marked.bytes span.base span.length placed in
    (omega (arith, placed.low), omega (arith, c.requires, within, placed.high))

pub returns : goal.returns
returns c =
    let span = c.args.self.now in
    let text = span.region.now.marked.bytes in
    c.byte.ensures
    ∙ span_byte text span.base span.length c.args.i span.placed (omega (arith, c.requires, span_long text span.base span.length span.placed))

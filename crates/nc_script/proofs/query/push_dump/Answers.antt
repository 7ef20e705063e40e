use Rattle.std.proofs.Common.{◌∙◌, sym, subst, arith}
use Rattle.std.specs.Option.{IsSome}
use Rattle.nc_script.specs.machinery.Session.{script_chunk}
use Rattle.nc_script.specs.Replies.{chunk_words}
use Rattle.std.specs.Prelude.{codes}
use Rattle.std.proofs.lemmas.Result.{IfOk-from_err}
use Rattle.nc_script.proofs.chunks.DumpReply.{dump_more, dump_whole, element_there}
use Rattle.nc_script.proofs.chunks.RetiredChunks.{placed_at}
use Rattle.nc_script.proofs.query.push_dump.Goals as goal

pub unwrap-chunk-requires : goal.unwrap-chunk-requires
unwrap-chunk-requires g c = subst IsSome (sym c.chunk.ensures) (element_there c.args.region.now.chunks c.loop-i.i (omega arith))

pub returns-in_err-push_chunk : goal.returns-in_err-push_chunk
returns-in_err-push_chunk g c = IfOk-from_err _ _ c.from_residual-in_err-push_chunk.ensures.0

pub loop-i-preserved : goal.loop-i-preserved
loop-i-preserved g c =
    let region = c.args.region.now in
    dump_more (script_chunk region.marked.bytes) chunk_words region.chunks c.loop-i.i c.unwrap-chunk.result c.extend_from_slice.new.self.items
    c.loop-i.out.items c.push_chunk.new.out.items
    (sym c.chunk.ensures ∙ c.unwrap-chunk.ensures) c.loop-i.invariant c.in_ok-push_chunk.ensures

pub push_chunk-requires-clause-low : goal.push_chunk-requires-clause-low
push_chunk-requires-clause-low g c =
    let region = c.args.region.now in
    let span = placed_at region.marked.bytes c.loop-i.i region.chunks c.unwrap-chunk.result c.chunk_count-i-end.ensures.region.placed
    (sym c.chunk.ensures ∙ c.unwrap-chunk.ensures) in
    span.low

pub push_chunk-requires-clause-high : goal.push_chunk-requires-clause-high
push_chunk-requires-clause-high g c =
    let region = c.args.region.now in
    let span = placed_at region.marked.bytes c.loop-i.i region.chunks c.unwrap-chunk.result c.chunk_count-i-end.ensures.region.placed
    (sym c.chunk.ensures ∙ c.unwrap-chunk.ensures) in
    omega (arith, span.high)

pub push_chunk-requires-clause-fits : goal.push_chunk-requires-clause-fits
push_chunk-requires-clause-fits g c =
    let region = c.args.region.now in
    let span = placed_at region.marked.bytes c.loop-i.i region.chunks c.unwrap-chunk.result c.chunk_count-i-end.ensures.region.placed
    (sym c.chunk.ensures ∙ c.unwrap-chunk.ensures) in
    omega (arith, span.high, span.lawful)

pub returns : goal.returns
returns g c =
    let region = c.args.region.now in
    dump_whole (script_chunk region.marked.bytes) chunk_words region.chunks c.loop-i.i c.args.out.now.items (codes "dump")
    c.extend_from_slice.new.self.items c.loop-i.out.items (omega arith) c.in_ok-extend_from_slice.ensures.items c.loop-i.invariant

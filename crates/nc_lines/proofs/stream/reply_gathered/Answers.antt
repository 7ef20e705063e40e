use Rattle.std.proofs.Common.{◌++◌, ℕ, List, [], take, sym, ap, ◌∙◌, subst, append-nil, arith, rules}
use Rattle.std.proofs.lemmas.Grind.{common_steps}
use Rattle.std.specs.Io.KnownBytes.{Consumes}
use Rattle.std.proofs.KnownBytes.{Consumes-nil, Consumes-trans, Consumes-kept}
use Rattle.nc_lines.specs.machinery.Progress.{KeepsUp}
use Rattle.nc_lines.proofs.Steps.{stands_start, stands_ended}
use Rattle.nc_lines.proofs.WholeInput.{fed_ends, finished_ends, read_ends}
use Rattle.nc_lines.proofs.stream.reply_gathered.Goals as goal

pub returns-in-Err : goal.returns-in-Err
returns-in-Err g c =
    let replies = g.S.Responder.replies in
    let (front, consumed, stands, none, most, _) = c.loop.invariant in
    read_ends (Unit {0}) replies c.args.responder.now (g.W.Write.contents c.args.writer.now) _ _ front
    (Consumes-kept _ _ _ front consumed c.in-Err.ensures.bytes) c.loop.responder (g.W.Write.contents c.loop.writer)
    (stands_ended replies _ _ front _ _ c.loop.replies.held.items c.loop.line.items none stands)

pub loop-init : goal.loop-init
loop-init g c = (
  [],
  Consumes-nil _,
  stands_start g.S.Responder.replies _ _ _ _ (search rules) (search rules),
  search rules,
  c.new-replies.ensures.most,
  search rules,
)

pub slice_bounds-feed-end : goal.slice_bounds-feed-end
slice_bounds-feed-end g c = grind (arith, common_steps)

pub loop-preserved : goal.loop-preserved
loop-preserved g c =
    let replies = g.S.Responder.replies in
    let m = c.args.responder.now in
    let before = g.W.Write.contents c.args.writer.now in
    let (front, consumed, stands, none, most, long) = c.loop.invariant in
    let n = c.in-Ok.count in
    let buf = c.read.new.buf in (
      front ++ take n buf,
      Consumes-trans _ _ _ front (take n buf) consumed c.in-Ok.ensures.bytes.0,
      c.in-Ok-feed.ensures.feeds m before front stands,
      c.in-Ok-feed.ensures.written,
      c.in-Ok-feed.ensures.most ∙ most,
      omega arith,
    )

pub returns-in-Err-feed : goal.returns-in-Err-feed
returns-in-Err-feed g c =
    let m = c.args.responder.now in
    let before = g.W.Write.contents c.args.writer.now in
    let (front, consumed, stands, none, most, long) = c.loop.invariant in
    let piece = take c.in-Ok.count c.read.new.buf in
    fed_ends (Unit {0}) g.S.Responder.replies m before _ _ (front ++ piece)
    (Consumes-trans _ _ _ front piece consumed c.in-Ok.ensures.bytes.0) c.feed.new.responder (g.W.Write.contents c.feed.new.writer)
    c.feed.new.replies.held.items c.feed.new.line.items c.in-Err-feed.fault (c.in-Err-feed.ensures.feeds m before front stands)

pub returns-then-count-eq0 : goal.returns-then-count-eq0
returns-then-count-eq0 g c =
    let replies = g.S.Responder.replies in
    let m = c.args.responder.now in
    let before = g.W.Write.contents c.args.writer.now in
    let (front, consumed, stands, none, most, long) = c.loop.invariant in
    let stands_here = subst (λ (kept : List ℕ). KeepsUp replies m before front c.loop.responder (g.W.Write.contents c.loop.writer)
    c.loop.replies.held.items kept) (sym c.as_slice.ensures.value) stands in
    let n = c.in-Ok.count in
    let buf = c.read.new.buf in
    finished_ends (Unit {0}) replies m before _ _ front
    (subst (Consumes _ _) (ap (λ (k : ℕ). front ++ take k buf) c.if-count-eq0.true ∙ append-nil front)
    (Consumes-trans _ _ _ front (take n buf) consumed c.in-Ok.ensures.bytes.0))
    c.finish.new.responder (g.W.Write.contents c.finish.new.writer) (c.in-Ok.ensures.bytes.1 c.if-count-eq0.true (omega arith))
    c.finish.result (c.finish.ensures.finishes m before front stands_here)

pub returns : goal.returns
returns g c =
    let replies = g.S.Responder.replies in
    let (front, consumed, stands, none, most, _) = c.loop.invariant in
    read_ends (Unit {0}) replies c.args.responder.now (g.W.Write.contents c.args.writer.now) _ _ front consumed c.loop.responder
    (g.W.Write.contents c.loop.writer) (stands_ended replies _ _ front _ _ c.loop.replies.held.items c.loop.line.items none stands)

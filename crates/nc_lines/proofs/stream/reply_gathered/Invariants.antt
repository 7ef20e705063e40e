-- How far the run has come, by the bytes that were read.
use Rattle.std.proofs.Common.{◌≡◌, ℕ, List, [], length}
use Rattle.std.specs.Io.KnownBytes.{Consumes}
use Rattle.nc_lines.specs.machinery.Progress.{KeepsUp}
use Rattle.nc_lines.proofs.stream.reply_gathered.Given as goal

abbrev pub invariant-loop : goal.invariant-loop
invariant-loop g l =
    (front : List ℕ) × Consumes (g.R.Read.remaining l.initial.reader) (g.R.Read.remaining l.reader) front
    × KeepsUp g.S.Responder.replies l.initial.responder (g.W.Write.contents l.initial.writer) front l.responder
    (g.W.Write.contents l.writer) l.replies.held.items l.line.items
    × (l.replies.held.items ≡ []) × (l.replies.held.most ≡ l.fn.most) × (length l.piece ≡ 4096)

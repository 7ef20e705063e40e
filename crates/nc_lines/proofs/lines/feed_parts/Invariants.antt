-- What has left `rest` counts as more bytes of the input, whatever came before them.
use Rattle.std.proofs.Common.{◌≡◌, ◌++◌, ℕ, List, Option, length}
use Rattle.nc_lines.specs.machinery.Progress.{KeepsUp}
use Rattle.nc_lines.proofs.lines.feed_parts.Given as goal

abbrev pub invariant-loop-rest : goal.invariant-loop-rest
invariant-loop-rest g l =
    (done : List ℕ) × (l.fn.piece ≡ done ++ l.rest) × (l.replies.held.most ≡ l.initial.replies.held.most)
    × ((start : g.row.S.Denot) (before : Option (List ℕ)) (bytes : List ℕ)
    → KeepsUp g.S.Responder.replies start before bytes l.initial.responder (g.W.Write.contents l.initial.writer)
    l.initial.replies.held.items l.initial.line.items
    → KeepsUp g.S.Responder.replies start before (bytes ++ done) l.responder (g.W.Write.contents l.writer)
    l.replies.held.items l.line.items)

abbrev pub decreases-loop-rest : goal.decreases-loop-rest
decreases-loop-rest g l = length l.rest

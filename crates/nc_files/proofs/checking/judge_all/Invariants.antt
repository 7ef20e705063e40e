-- The reports on the files of the rounds so far have been printed.
use Rattle.std.proofs.Common.{◌≡◌, ◌++◌, List}
use Rattle.std.specs.Borrow.{Bor}
use Rattle.std.specs.Slice.Iter.{chunks_rest}
use Rattle.nc_files.specs.Outcomes.{HasPrinted}
use Rattle.nc_files.proofs.checking.judge_all.Given as goal

abbrev pub invariant-loop-files : goal.invariant-loop-files
invariant-loop-files g l =
    (done : List (Bor (List _))) × (l.request.files.items ≡ done ++ chunks_rest l.files-iterator)
    × HasPrinted l.request done l.initial.state.outcome l.state.outcome (g.W.Write.contents l.initial.writer.writer)
    (g.W.Write.contents l.writer.writer)

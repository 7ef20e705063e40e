-- The reports on the files before the one at hand have been printed.
use Rattle.std.proofs.Common.{take}
use Rattle.nc_files.specs.Outcomes.{HasPrinted}
use Rattle.nc_files.proofs.checking.print_round.Given as goal

abbrev pub invariant-loop-number : goal.invariant-loop-number
invariant-loop-number g l =
    HasPrinted l.request (take l.number l.files) l.initial.state.outcome l.state.outcome (g.W.Write.contents l.initial.writer.writer)
    (g.W.Write.contents l.writer.writer)

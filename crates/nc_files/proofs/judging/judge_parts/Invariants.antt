-- The reports so far are those on the parts before the ones that are left.
use Rattle.std.proofs.Common.{◌≡◌, ◌++◌, List, map}
use Rattle.std.specs.Vec.Iter.{into_iter_items}
use Rattle.nc_report.specs.Report.{HasWritten}
use Rattle.nc_files.specs.Reports.{Judged, judged_in, ReportsAll}
use Rattle.nc_files.proofs.judging.judge_parts.Given as goal

abbrev pub invariant-loop-part : goal.invariant-loop-part
invariant-loop-part g l =
    (done : List Judged) × (map judged_in (into_iter_items l.initial.part-iterator)
    ≡ done ++ map judged_in (into_iter_items l.part-iterator))
    × HasWritten (ReportsAll l.request done l.is_refused) (g.W.Write.contents l.initial.writer) (g.W.Write.contents l.writer)

-- The text about the places so far was added, their faults are counted, and a prefix of all was written, so that little is kept.
use Rattle.std.proofs.Common.{◌≡◌, ◌-◌, ◌<◌, ◌≤◌, length, vec_len}
use Rattle.nc_reading.specs.Quiet.{AreCandidates}
use Rattle.nc_report.specs.Further.{others_to}
use Rattle.nc_report.specs.Totals.{counts_to}
use Rattle.nc_report.specs.Report.{ReportsEach}
use Rattle.nc_report.specs.machinery.Added.{WritesOn}
use Rattle.nc_report.proofs.others.write_places.Given as goal

abbrev pub invariant-loop-k : goal.invariant-loop-k
invariant-loop-k g l = record {
  within : l.k ≤ length l.judged.code.now;
  known : AreCandidates l.judged.code.now l.classes l.seen.at l.seen.bits;
  text : WritesOn (g.W.Write.contents l.initial.writer) (g.W.Write.contents l.writer) l.initial.out.items l.out.items
      (ReportsEach l.format (others_to l.judged.base l.judged.limit l.judged.code.now l.classes l.own l.k));
  counts : l.counts ≡ counts_to l.judged.base l.judged.limit l.judged.code.now l.classes l.k;
  short : vec_len l.initial.out < 65536 → vec_len l.out < 65536;
}

abbrev pub decreases-loop-k : goal.decreases-loop-k
decreases-loop-k g l = length l.judged.code.now - l.k

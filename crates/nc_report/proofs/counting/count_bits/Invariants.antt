-- The bundles so far are counted.
use Rattle.std.proofs.Common.{◌≡◌, ◌≤◌, ◌*◌, take, sum_by}
use Rattle.nc_report.specs.machinery.Counts.{begun_in}
use Rattle.nc_report.proofs.counting.count_bits.Given as goal

abbrev pub invariant-loop-bundle : goal.invariant-loop-bundle
invariant-loop-bundle l = (l.count ≡ sum_by begun_in (take l.bundle-index l.bundles)) × (l.count ≤ 32 * l.bundle-index)

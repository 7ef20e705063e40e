-- Each byte so far takes five bytes of text at most.
use Rattle.std.proofs.Common.{◌≡◌, ◌≤◌, ◌*◌, length}
use Rattle.nc_report.proofs.listing.put_bytes.Given as goal

abbrev pub invariant-loop-n : goal.invariant-loop-n
invariant-loop-n l = record { within : l.len ≤ 5 * l.n; long : length l.text ≡ 44 }

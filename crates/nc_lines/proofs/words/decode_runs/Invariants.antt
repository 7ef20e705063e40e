-- The pairs so far are decoded.
use Rattle.std.proofs.Common.{length, ◌-◌}
use Rattle.nc_lines.specs.machinery.Digits.{IsDecodedTo}
use Rattle.nc_lines.proofs.words.decode_runs.Given as goal

abbrev pub invariant-loop-bytes : goal.invariant-loop-bytes
invariant-loop-bytes l = IsDecodedTo l.digits l.bytes l.done

abbrev pub decreases-loop-bytes : goal.decreases-loop-bytes
decreases-loop-bytes l = length l.bytes - l.done

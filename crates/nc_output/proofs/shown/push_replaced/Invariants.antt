-- The text so far was added as it is shown.
use Rattle.std.proofs.Common.{◌≡◌, ◌++◌, take}
use Rattle.nc_output.specs.Shown.{text_shown}
use Rattle.nc_output.proofs.shown.push_replaced.Given as goal

abbrev pub invariant-loop-byte : goal.invariant-loop-byte
invariant-loop-byte l = l.out.items ≡ l.initial.out.items ++ text_shown (take l.byte-index l.text)

-- The digits of the bytes so far are written.
use Rattle.std.proofs.Common.{◌≡◌, ◌++◌, ◌-◌}
use Rattle.hex.specs.Hex.{encode_lower}
use Rattle.nc_script.specs.machinery.Session.{bytes_at}
use Rattle.nc_script.proofs.reply.push_span.Given as goal

abbrev pub invariant-loop-at : goal.invariant-loop-at
invariant-loop-at g l = l.out.items ≡ l.initial.out.items ++ encode_lower (bytes_at l.region.marked.bytes l.base (l.at - l.base))

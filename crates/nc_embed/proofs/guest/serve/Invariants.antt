use Rattle.std.proofs.Common.{◌≡◌}
use Rattle.nc_embed.proofs.guest.serve.Given as goal

-- the pass stays one of this table
abbrev pub invariant-loop-times : goal.invariant-loop-times
invariant-loop-times g l = l.pass.table ≡ l.fn.pass.table

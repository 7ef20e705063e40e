use Rattle.std.proofs.Common.{arith}
use Rattle.std.proofs.lemmas.Grind.{common_steps}
use Rattle.nc_cli.proofs.parsing.first_no_text.Goals as goal

pub slice_bounds-from_utf8-end : goal.slice_bounds-from_utf8-end
slice_bounds-from_utf8-end g c = grind (arith, common_steps)

pub slice_bounds-escape_ascii-end : goal.slice_bounds-escape_ascii-end
slice_bounds-escape_ascii-end g c = grind (arith, common_steps)

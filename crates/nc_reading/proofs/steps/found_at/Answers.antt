use Rattle.std.proofs.Common.{rules, sym}
use Rattle.nc_reading.proofs.steps.found_at.Goals as goal

pub returns-then-ne : goal.returns-then-ne
returns-then-ne c = λ window f. (c.args.instr, f, sym c.if-is_indirect.ensures, search rules)

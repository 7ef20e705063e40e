use Rattle.std.proofs.Common.{rules}
use Rattle.nc_list.proofs.entry.Entry.is_due.Goals as goal

pub returns : goal.returns
returns c = search rules

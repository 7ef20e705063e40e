use Rattle.std.proofs.Common.{rules}
use Rattle.nc_script.proofs.request.first_room.Goals as goal

pub returns-in-Some : goal.returns-in-Some
returns-in-Some c = search rules

use Rattle.std.proofs.Common.{rules}
use Rattle.nc_embed.proofs.image.Image.new.Goals as goal

pub returns-in-Ok-clause-size : goal.returns-in-Ok-clause-size
returns-in-Ok-clause-size c = search rules

pub returns-in-Err-BadSize-clause-size : goal.returns-in-Err-BadSize-clause-size
returns-in-Err-BadSize-clause-size c = search rules

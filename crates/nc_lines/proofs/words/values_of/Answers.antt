use Rattle.nc_lines.proofs.DigitLanes.{lanes_valued}
use Rattle.nc_lines.proofs.words.values_of.Goals as goal

pub returns : goal.returns
returns c = lanes_valued c.args.digits c.requires

use Rattle.std.proofs.Common.{refl}
use Rattle.nc_elf.proofs.listing.Segment.bytes.Goals as goal

pub returns : goal.returns
returns c = refl

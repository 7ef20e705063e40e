use Rattle.std.proofs.Common.{inl, refl}
use Rattle.nc_host.proofs.lent_image.limit_for.Goals as goal

pub returns : goal.returns
returns c = inl refl

use Rattle.nc_region.proofs.chunks.Inserting.{region_of_new}
use Rattle.nc_region.proofs.region.RegionOf.over.Goals as goal

pub invariant_of-result : goal.invariant_of-result
invariant_of-result g c = rw c.new.ensures (region_of_new (g.A.Acts.marked c.args.acts) c.requires, tt)

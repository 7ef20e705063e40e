use Rattle.nc_region.proofs.region.RegionOf.byte.Goals as goal

pub returns : goal.returns
returns g c = rw (← c.self.view_is) c.byte.ensures

pub byte-requires : goal.byte-requires
byte-requires g c = rw (← c.self.view_is) at c.requires

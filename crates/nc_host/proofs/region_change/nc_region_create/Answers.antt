use Rattle.nc_host.proofs.region_change.nc_region_create.Goals as goal

pub returns-clause-at : goal.returns-clause-at
returns-clause-at c = c.vet_and_load-change.ensures.at

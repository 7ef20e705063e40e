use Rattle.nc_region.proofs.patch.mark_within.Goals as goal

pub returns-then-at-limit : goal.returns-then-at-limit
returns-then-at-limit g c = λ _. c.mark.ensures

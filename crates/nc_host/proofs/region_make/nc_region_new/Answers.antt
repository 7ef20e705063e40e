use Rattle.std.proofs.Common.{sym, ◌∙◌}
use Rattle.nc_host.proofs.region_make.nc_region_new.Goals as goal

pub returns-in-Some-clause-unchanged : goal.returns-in-Some-clause-unchanged
returns-in-Some-clause-unchanged c = λ lt. c.of.ensures ∙ sym c.in-Some.ensures.some

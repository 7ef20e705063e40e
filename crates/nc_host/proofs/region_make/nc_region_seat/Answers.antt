use Rattle.std.proofs.Common.{sym, ◌∙◌, rules}
use Rattle.nc_host.proofs.region_make.nc_region_seat.Goals as goal

pub returns-in-Some-clause-unchanged : goal.returns-in-Some-clause-unchanged
returns-in-Some-clause-unchanged c = λ lt. (search rules, c.of.ensures ∙ sym c.in-Some.ensures.some)

pub returns-in_default-take-clause-refused : goal.returns-in_default-take-clause-refused
returns-in_default-take-clause-refused c = search rules

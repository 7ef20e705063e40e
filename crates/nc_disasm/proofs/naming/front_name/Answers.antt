use Rattle.nc_disasm.proofs.naming.front_name.Goals as goal

pub returns-in_default-clause-none : goal.returns-in_default-clause-none
returns-in_default-clause-none c = λ i f. let e = (c.in_default.ensures.found i).1 f in cc

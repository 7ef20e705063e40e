use Rattle.nc_disasm.proofs.naming.push_instruction.Goals as goal

pub returns-in_default-clause-named : goal.returns-in_default-clause-named
returns-in_default-clause-named c = λ i s. let e = c.in_default.ensures.only i s in cc

pub returns-clause-refused : goal.returns-clause-refused
returns-clause-refused c = λ no. absurd (no c.in-Some.instr c.in-Some.ensures.is)

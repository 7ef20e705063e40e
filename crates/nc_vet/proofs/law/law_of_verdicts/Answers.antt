use Rattle.nc_vet.proofs.OneFault.{none_valid}
use Rattle.nc_vet.proofs.OneReading.{same_pieces}
use Rattle.nc_vet.proofs.OneVerdict.{one_fault, one_reading}
use Rattle.nc_vet.proofs.law.law_of_verdicts.Goals as goal

pub returns-clause-one_fault : goal.returns-clause-one_fault
returns-clause-one_fault c = one_fault

pub returns-clause-no_fault : goal.returns-clause-no_fault
returns-clause-no_fault c = λ chunk fault v f. none_valid chunk.base chunk.limit chunk.code chunk.marks fault v f

pub returns-clause-one_reading : goal.returns-clause-one_reading
returns-clause-one_reading c = one_reading

pub returns-clause-one_parting : goal.returns-clause-one_parting
returns-clause-one_parting c = same_pieces

use Rattle.std.proofs.Common.{[], arith}
use Rattle.std.proofs.KnownBytes.{Consumes-nil}
use Rattle.nc_files.proofs.files.read_source.Goals as goal

pub returns-in_default-clause-out_of_memory : goal.returns-in_default-clause-out_of_memory
returns-in_default-clause-out_of_memory g c = λ _. ([], Consumes-nil _, omega arith)

pub returns-in-Err-clause-too_long : goal.returns-in-Err-clause-too_long
returns-in-Err-clause-too_long g c = λ e. c.in-Err.ensures.too_long cc

pub returns-in-Err-clause-read_failed : goal.returns-in-Err-clause-read_failed
returns-in-Err-clause-read_failed g c = λ e. c.in-Err.ensures.read_failed cc

pub returns-in-Err-clause-out_of_memory : goal.returns-in-Err-clause-out_of_memory
returns-in-Err-clause-out_of_memory g c = λ e. c.in-Err.ensures.out_of_memory cc

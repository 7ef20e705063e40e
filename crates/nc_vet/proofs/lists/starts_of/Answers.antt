use Rattle.std.proofs.Common.{◌+◌, ◌*◌, arith}
use Rattle.nc_vet.proofs.GoodOffsets.{start_in_word, second_in_word}
use Rattle.nc_vet.proofs.lists.starts_of.Goals as goal

pub returns-clause-start : goal.returns-clause-start
returns-clause-start c = λ k lt set. start_in_word c.args.bundle (2 * c.from.result + 1) k (omega (arith, c.from.ensures)) lt set

pub returns-clause-second : goal.returns-clause-second
returns-clause-second c = λ k lt set. second_in_word c.args.bundle (2 * c.from.result + 1) k (omega arith) lt set

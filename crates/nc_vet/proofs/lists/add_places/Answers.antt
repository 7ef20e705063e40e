use Rattle.std.proofs.Common.{rules, arith}
use Rattle.std.proofs.lemmas.Grind.{elements}
use Rattle.nc_vet.proofs.lists.add_places.Goals as goal

pub returns-clause-count : goal.returns-clause-count
returns-clause-count c = search rules

pub returns-clause-added : goal.returns-clause-added
returns-clause-added c = grind (arith, elements)

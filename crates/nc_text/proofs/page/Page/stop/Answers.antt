use Rattle.std.proofs.Common.{arith}
use Rattle.std.proofs.lemmas.Grind.{elements}
use Rattle.nc_text.proofs.page.Page.stop.Goals as goal

pub returns-clause-within : goal.returns-clause-within
returns-clause-within c = grind (arith, elements)

pub returns-clause-others : goal.returns-clause-others
returns-clause-others c = grind (arith, elements)

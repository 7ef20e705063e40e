use Rattle.std.proofs.Common.{ap}
use Rattle.nc_gens.proofs.table.Keeper.generation.Goals as goal

pub returns-clause-generation : goal.returns-clause-generation
returns-clause-generation c =
    let kept = ap (λ k. k.numbers.generation) c.self.view_is in
    let same = c.self.invariant.generation_is in
    cc

use Rattle.std.proofs.Common.{ap}
use Rattle.nc_gens.proofs.table.Pass.since.Goals as goal

pub returns : goal.returns
returns c =
    let kept = ap (λ p. p.numbers.since) c.self.view_is in
    let same = c.self.invariant.since_is in
    cc

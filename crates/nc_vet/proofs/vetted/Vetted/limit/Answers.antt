use Rattle.std.proofs.Common.{ap}
use Rattle.nc_vet.proofs.vetted.Vetted.limit.Goals as goal

pub returns : goal.returns
returns c = record { value = let seen = ap (λ v. v.limit) c.self.view_is in cc }

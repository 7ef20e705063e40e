use Rattle.std.proofs.Common.{◌<◌, ap, sym, subst}
use Rattle.nc_vet.specs.declared.fault.VetFault.TheVariants.{OutOfMemory}
use Rattle.nc_host.specs.declared.lent_results.NcVerdict.{NcVerdict}
use Rattle.nc_host.proofs.Accepted.{some_fault}
use Rattle.nc_host.proofs.Admitted.{vetted_span}
use Rattle.nc_host.proofs.vetted.keep.Goals as goal

pub returns-clause-fault : goal.returns-clause-fault
returns-clause-fault c =
    let number = ap (λ (v : NcVerdict). v.fault) c.verdict_of.ensures in
    let place = ap (λ (v : NcVerdict). v.at) c.verdict_of.ensures in
    (subst (λ n. 0 < n) (sym number) (some_fault OutOfMemory), (OutOfMemory, vetted_span _ _ _ _ c.in-Ok.ensures.vetted, number, place))

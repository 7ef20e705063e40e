use Rattle.std.proofs.Common.{arith, ◌<◌, ap, sym, subst}
use Rattle.std.proofs.lemmas.Grind.{common_steps}
use Rattle.nc_vet.specs.declared.fault.VetFault.TheVariants.{OutOfMemory}
use Rattle.nc_host.specs.declared.lent_results.NcVerdict.{NcVerdict}
use Rattle.nc_host.proofs.Accepted.{good_span, some_fault}
use Rattle.nc_host.proofs.vet_copy.vet_copy.Goals as goal

pub returns-in-Err-clause-fault : goal.returns-in-Err-clause-fault
returns-in-Err-clause-fault c = grind (arith, common_steps)

pub returns-in-Err-to_vec-clause-fault : goal.returns-in-Err-to_vec-clause-fault
returns-in-Err-to_vec-clause-fault c =
    let number = ap (λ (v : NcVerdict). v.fault) c.verdict_of-in-Err-to_vec.ensures in
    let place = ap (λ (v : NcVerdict). v.at) c.verdict_of-in-Err-to_vec.ensures in
    (subst (λ n. 0 < n) (sym number) (some_fault OutOfMemory), (OutOfMemory, good_span _ _ _ _ c.in-Ok.ensures.valid, number, place))

use Rattle.std.proofs.Common.{ap, sym}
use Rattle.nc_vet.specs.declared.fault.VetFault.{VetFault}
use Rattle.nc_host.specs.declared.lent_results.NcVerdict.{NcVerdict}
use Rattle.nc_host.specs.Shown.{fault_number, fault_place}
use Rattle.nc_host.proofs.lent_vet.verdict_of.Goals as goal

pub returns-in-BadTarget : goal.returns-in-BadTarget
returns-in-BadTarget c =
    let verdict : VetFault → NcVerdict = λ fault. record { fault = fault_number fault; at = fault_place fault } in
    ap verdict (sym c.in-BadTarget.is)

use Rattle.std.proofs.Common.{arith, ℕ, List, refl, subst}
use Rattle.std.proofs.lemmas.Grind.{common_steps}
use Rattle.nc_vet.specs.Faults.{HasFault}
use Rattle.nc_vet.proofs.OneFault.{none_valid}
use Rattle.nc_vet.proofs.vetting.vet.Goals as goal

pub returns-in-Ok-clause-verdict : goal.returns-in-Ok-clause-verdict
returns-in-Ok-clause-verdict c = grind (arith, common_steps)

pub returns-in-Ok-clause-vetted : goal.returns-in-Ok-clause-vetted
returns-in-Ok-clause-vetted c = grind (arith, common_steps)

pub returns-in-Err-clause-valid : goal.returns-in-Err-clause-valid
returns-in-Err-clause-valid c = λ marks v.
    none_valid c.args.base c.args.limit c.args.code.items marks c.in-Err.fault v
    (subst (λ (code : List ℕ). HasFault c.args.base c.args.limit code c.in-Err.fault) c.deref.ensures.value c.in-Err.ensures.fault)

pub returns-in-Err-clause-given_back : goal.returns-in-Err-clause-given_back
returns-in-Err-clause-given_back c = refl

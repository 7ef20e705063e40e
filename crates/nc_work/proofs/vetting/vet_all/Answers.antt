use Rattle.std.proofs.Common.{◌≡◌, Bool, true, false, ap, Result, Ok, Err, arith, refl}
use Rattle.nc_work.specs.declared.fault.WorkFault.{WorkFault}
use Rattle.nc_work.specs.declared.fault.WorkFault.TheVariants.{BadWorkers, OutOfMemory}
use Rattle.nc_work.proofs.vetting.vet_all.Goals as goal

-- the fault is a lack of memory
abbrev lacks_memory : WorkFault → Bool
lacks_memory BadWorkers = false
lacks_memory OutOfMemory = true

-- a lack of memory is no bad number of workers
no_memory : {V J : Type 0} (jobs : J) → ◌≡◌ {A = Result V (J × WorkFault)} (Err (jobs, OutOfMemory)) (Err (jobs, BadWorkers)) → ⊥
no_memory {V} {J} jobs e =
    let same : ◌≡◌ {A = J × WorkFault} (jobs, OutOfMemory) (jobs, BadWorkers) = cc in
    let no : true ≡ false = ap (λ (p : J × WorkFault). lacks_memory p.1) same in
    absurd (cc)

-- verdicts are no fault
no_fault : {V J : Type 0} (verdicts : V) (jobs : J) → ◌≡◌ {A = Result V (J × WorkFault)} (Ok verdicts) (Err (jobs, BadWorkers)) → ⊥
no_fault verdicts jobs e = absurd (cc)

pub returns-in_default-clause-given_back : goal.returns-in_default-clause-given_back
returns-in_default-clause-given_back g c = refl

pub returns-in_default-clause-bad_workers : goal.returns-in_default-clause-bad_workers
returns-in_default-clause-bad_workers g c = (λ e. absurd (no_memory c.args.jobs e), λ no. absurd (no (omega arith, omega arith)))

pub returns-clause-bad_workers : goal.returns-clause-bad_workers
returns-clause-bad_workers g c = (λ e. absurd (no_fault c.conclude.result c.args.jobs e), λ no. absurd (no (omega arith, omega arith)))

pub returns-clause-verdicts : goal.returns-clause-verdicts
returns-clause-verdicts g c = c.conclude.ensures

pub returns-clause-given_back : goal.returns-clause-given_back
returns-clause-given_back g c = tt

use Rattle.nc_output.proofs.verdict.push_name.Goals as goal
use Rattle.std.proofs.Common.{◌≡◌, ◌≢◌, ◌++◌, ℕ, List, Option, Result, Ok, Err, OnOk, ap, ◌∙◌}
use Rattle.std.proofs.lemmas.List.{append_assoc}
use Rattle.nc_vet.specs.declared.fault.VetFault.{VetFault}
use Rattle.nc_vet.specs.declared.fault.VetFault.TheVariants.{OutOfMemory}
use Rattle.nc_output.specs.Verdicts.{fault_name, place_of, address_after, fault_words}

-- the name was added, and then the address
both_added : {T E : Type 0} (r : Result T E) (fault : VetFault) (old name middle new : List ℕ) (at : Option ℕ) → fault ≢ OutOfMemory
    → name ≡ fault_name fault → middle ≡ old ++ name → at ≡ place_of fault → OnOk r (new ≡ middle ++ address_after at)
    → OnOk r ((fault ≢ OutOfMemory) × (new ≡ old ++ fault_words fault))
both_added (Ok x) fault old name middle new at is_named named front place rest =
    let words =
    rest
    ∙ (ap (λ (z : List ℕ). z ++ address_after at) (front ∙ ap (λ (z : List ℕ). old ++ z) named)
    ∙ (append_assoc old (fault_name fault) (address_after at)
    ∙ ap (λ (z : Option ℕ). old ++ (fault_name fault ++ address_after z)) place)) in
    (is_named, words)
both_added (Err x) fault old name middle new at is_named named front place rest = tt

pub returns : goal.returns
returns c =
    both_added c.push_after.result c.args.fault c.args.out.now.items _ _ _ _ c.in_ok-fault_name.ensures.named.0 c.in_ok-fault_name.ensures.named.1
    c.in_ok-extend_from_slice.ensures.items c.place_of.ensures c.push_after.ensures

-- Which fault a valid chunk may have, and what is said of its span.
use Rattle.std.proofs.Common.{◌≡◌, ℕ, ◌<◌, List, length, arith, ap, ⊎_elim, ◌⊎◌, inl, inr}
use Rattle.nc_decode.specs.declared.instruction.Mark.{Mark}
use Rattle.nc_vet.specs.declared.fault.VetFault.{VetFault}
use Rattle.nc_vet.specs.declared.fault.VetFault.TheVariants.{BadBase, BadLength, OutOfRange, NotPermitted, Crosses, Bare, BadTarget}
use Rattle.nc_vet.specs.declared.fault.VetFault.TheVariants.{OutOfMemory}
use Rattle.nc_vet.specs.Faults.{HasFault, HasGoodSpan}
use Rattle.nc_vet.proofs.Offered.{none_valid}
use Rattle.nc_host.specs.Shown.{fault_number}
use Rattle.nc_host.specs.Outcomes.{IsAccepted}

-- the fault of a valid chunk is lack of memory
pub only_memory : (base limit : ℕ) (code : List ℕ) (marks : List Mark) (f : VetFault) → IsAccepted base limit code marks
    → HasFault base limit code f → fault_number f ≡ 8
only_memory base limit code marks f valid has =
    ap fault_number (none_valid base limit code marks f valid has)

-- a number of a chunk's fault is none of the others
pub some_fault : (f : VetFault) → 0 < fault_number f
some_fault BadBase = omega arith
some_fault BadLength = omega arith
some_fault OutOfRange = omega arith
some_fault (NotPermitted at) = omega arith
some_fault (Crosses at) = omega arith
some_fault (Bare at) = omega arith
some_fault (BadTarget at) = omega arith
some_fault OutOfMemory = omega arith

-- the span of an accepted chunk is good
pub good_span : (base limit : ℕ) (code : List ℕ) (marks : List Mark) → IsAccepted base limit code marks → HasGoodSpan base limit (length code)
good_span base limit code marks v =
    record { lawful = v.range.0; start = v.base_is.0; whole = v.length_is.1; some = v.length_is.0; low = v.base_is.1; high = v.range.1 }

-- the outcome for a valid chunk, in the words of the exports
pub eight_or_nine : (fault wanted room : ℕ) → (fault ≡ 8) ⊎ ((fault ≡ 9) × (room < wanted)) → (fault ≡ 0) ⊎ ((fault ≡ 8) ⊎ (fault ≡ 9))
eight_or_nine fault wanted room h = ⊎_elim (λ e. inr (inl e)) (λ e. inr (inr e.0)) h

-- where nothing is wanted there is always room
pub only_eight : (fault : ℕ) → (fault ≡ 8) ⊎ ((fault ≡ 9) × (0 < 0)) → (fault ≡ 0) ⊎ (fault ≡ 8)
only_eight fault h = ⊎_elim (λ e. inr e) (λ e. absurd (omega (arith, e.1))) h

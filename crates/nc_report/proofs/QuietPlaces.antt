-- Places that have no fault, by their class and their byte alone.
use Rattle.std.proofs.Common.{◌≡◌, ℕ, zero, suc, ◌+◌, ◌-◌, ◌<◌, ◌≤◌, Bool, true, false, List, [], ◌∷◌, ◌++◌, length, drop, get_or, cond, refl, sym, subst, ◌∙◌, ap, slice_index, not, ◌==◌, get_or-drop, append-nil, Option, Some, None, arith, inl, inr}
use Rattle.std.specs.Prelude.{option_to_list}
use Rattle.std.proofs.lemmas.Bool.{not-true, cond_both, and_left, cases_lt}
use Rattle.nc_decode.specs.declared.instruction.Instr.{Instr}
use Rattle.nc_decode.specs.Spelling.{Spells, IsAtFront}
use Rattle.nc_decode.specs.Front.{first_instruction}
use Rattle.nc_decode.specs.Transfers.{is_direct, may_transfer, target}
use Rattle.nc_decode.proofs.Offered.{exact, direct_begins, spells_some}
use Rattle.nc_base.proofs.Offered.{true_or_false}
use Rattle.nc_vet.specs.declared.fault.VetFault.{VetFault}
use Rattle.nc_vet.specs.declared.fault.VetFault.TheVariants as vet
use Rattle.nc_reading.specs.declared.class.Class.{Class}
use Rattle.nc_reading.specs.declared.class.Class.TheVariants.{Inside, Skipped, Entry, Second, NotPermitted, Crosses, Bare}
use Rattle.nc_reading.specs.Quiet.{is_quiet}
use Rattle.nc_report.specs.Further.{may_go, has_bad_target, fault_by, fault_at, others_at, others_to}
use Rattle.nc_report.specs.Totals.{counts_to}
use Rattle.nc_report.specs.machinery.CountedFault.{counted}
use Rattle.nc_report.proofs.CountedFaults.{counts_more}
use Rattle.nc_report.proofs.FurtherTexts.{others_more}

-- a direct transfer begins with one of its bytes
first_byte : (bytes : List ℕ) (i : Instr) → IsAtFront bytes i → is_direct i.flow ≡ true → may_transfer (get_or bytes 0 0) ≡ true
first_byte bytes i f direct = go f.front refl
  where
    go : (front : List ℕ) → f.front ≡ front → may_transfer (get_or bytes 0 0) ≡ true
    go [] e = absurd (let some = spells_some f.front i f.spells in omega (arith, some.0, some.1, ap (λ (z : List ℕ). length z) e))
    go (b ∷ more) e =
        subst (λ (z : List ℕ). may_transfer (get_or z 0 0) ≡ true) (sym (f.parts ∙ ap (λ (z : List ℕ). z ++ f.rest) e))
        (direct_begins b more i (subst (λ (z : List ℕ). Spells z i) e f.spells) direct)

-- where no direct transfer begins with the byte, none has a bad target
no_bad_target : (base limit : ℕ) (classes : List Class) (at : ℕ) (bytes : List ℕ) (found : Option Instr) → first_instruction bytes ≡ found
    → may_transfer (get_or bytes 0 0) ≡ false → has_bad_target base limit classes at found ≡ false
no_bad_target base limit classes at bytes None is other = refl
no_bad_target base limit classes at bytes (Some i) is other =
    elim (true_or_false (is_direct i.flow)) [
      | inl direct ↦ absurd (let f : true ≡ false = sym (first_byte bytes i ((exact bytes i).0 is) direct) ∙ other in cc)
      | inr indirect ↦ and_left (is_direct i.flow) (not (may_go base limit classes (target i at))) indirect
    ]

-- no fault by a quiet class and byte
quiet_by : (class : Class) (byte : ℕ) (bad_target : Bool) (at : ℕ) → is_quiet class byte ≡ true → (may_transfer byte ≡ false → bad_target ≡ false)
    → fault_by class bad_target at ≡ None
quiet_by Inside byte bad_target at q f = refl
quiet_by Skipped byte bad_target at q f = refl
quiet_by Second byte bad_target at q f = refl
quiet_by Entry byte bad_target at q f = ap (λ (b : Bool). cond b (Some (vet.BadTarget at)) None) (f (not-true (may_transfer byte) q))
quiet_by NotPermitted byte bad_target at q f = absurd cc
quiet_by Crosses byte bad_target at q f = absurd cc
quiet_by Bare byte bad_target at q f = absurd cc

-- a quiet place has no fault
pub quiet_none : (base limit : ℕ) (code : List ℕ) (classes : List Class) (k : ℕ)
    → is_quiet (get_or classes k Inside) (slice_index code k) ≡ true → fault_at base limit code classes k ≡ None
quiet_none base limit code classes k q =
    quiet_by (get_or classes k Inside) (slice_index code k)
    (has_bad_target base limit classes (base + k) (first_instruction (drop k code))) (base + k) q
    (λ other. no_bad_target base limit classes (base + k) (drop k code) (first_instruction (drop k code)) refl
    (ap may_transfer (get_or-drop k code 0 0 ∙ ap (λ (n : ℕ). get_or code n 0) (let e : k + 0 ≡ k = omega arith in e)) ∙ other))

-- no place from `k` on and before `next` has a fault
abbrev pub AreFaultless : ℕ → ℕ → List ℕ → List Class → ℕ → ℕ → Type 0
AreFaultless base limit code classes k next = (j : ℕ) → k ≤ j → j < next → fault_at base limit code classes j ≡ None

-- quiet places after places without a fault have none either
pub faultless_on : (base limit : ℕ) (code : List ℕ) (classes : List Class) (k at next : ℕ) → AreFaultless base limit code classes k at
    → ((j : ℕ) → at ≤ j → j < next → is_quiet (get_or classes j Inside) (slice_index code j) ≡ true)
    → AreFaultless base limit code classes k next
faultless_on base limit code classes k at next before quiet j low high = elim (cases_lt j at) [
  | inl early ↦ before j low early
  | inr late ↦ quiet_none base limit code classes j (quiet j (omega (arith, late)) high)
]

-- nor has one more place without a fault
pub faultless_past : (base limit : ℕ) (code : List ℕ) (classes : List Class) (k place : ℕ) → AreFaultless base limit code classes k place
    → fault_at base limit code classes place ≡ None → AreFaultless base limit code classes k (place + 1)
faultless_past base limit code classes k place before none j low high = elim (cases_lt j place) [
  | inl early ↦ before j low early
  | inr late ↦ subst (λ (n : ℕ). fault_at base limit code classes n ≡ None) (let e : place ≡ j = omega (arith, late, high) in e) none
]

-- a place without a fault has no further fault
none_at : (base limit : ℕ) (code : List ℕ) (classes : List Class) (own k : ℕ) → fault_at base limit code classes k ≡ None
    → others_at base limit code classes own k ≡ []
none_at base limit code classes own k e = cond_both (k == own) _ _ (λ (z : List VetFault). z ≡ []) (λ _. refl) (λ _. ap option_to_list e)

-- what each of some places keeps, all of them keep
kept_on : {X : Type 0} (f : ℕ → X) (k n : ℕ) → ((j : ℕ) → k ≤ j → j < k + n → f (j + 1) ≡ f j) → f (k + n) ≡ f k
kept_on f k zero each = ap f {x = k + 0} {y = k} (omega arith)
kept_on f k (suc n) each =
    ap f {x = k + suc n} {y = (k + n) + 1} (omega arith) ∙ each (k + n) (omega arith) (omega arith)
    ∙ kept_on f k n (λ j low high. each j low (omega (arith, high)))

kept_over : {X : Type 0} (f : ℕ → X) (k next : ℕ) → k ≤ next → ((j : ℕ) → k ≤ j → j < next → f (j + 1) ≡ f j) → f next ≡ f k
kept_over f k next low each =
    ap f {x = next} {y = k + (next - k)} (omega arith) ∙ kept_on f k (next - k) (λ j a b. each j a (omega (arith, b, low)))

-- places without a fault add none
pub others_over : (base limit : ℕ) (code : List ℕ) (classes : List Class) (own k next : ℕ) → k ≤ next
    → AreFaultless base limit code classes k next
    → others_to base limit code classes own next ≡ others_to base limit code classes own k
others_over base limit code classes own k next low none =
    kept_over (others_to base limit code classes own) k next low
    (λ j a b. others_more base limit code classes own j
    ∙ ap (λ (z : List VetFault). others_to base limit code classes own j ++ z) (none_at base limit code classes own j (none j a b)) ∙ append-nil _)

-- places without a fault aren't counted
pub counts_over : (base limit : ℕ) (code : List ℕ) (classes : List Class) (k next : ℕ) → k ≤ next → AreFaultless base limit code classes k next
    → counts_to base limit code classes next ≡ counts_to base limit code classes k
counts_over base limit code classes k next low none =
    kept_over (counts_to base limit code classes) k next low
    (λ j a b. sym (counts_more base limit code classes j) ∙ ap (counted (counts_to base limit code classes j)) (none j a b))

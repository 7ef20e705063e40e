-- Which bytes mask a register, and which registers are named.
use Rattle.std.proofs.Common.{◌≡◌, ◌≢◌, ℕ, ◌+◌, ◌<◌, List, [], ◌∷◌, get_or, Option, Some, None, refl, sym, ◌∙◌, arith, inl, inr, ◌==◌}
use Rattle.std.proofs.Common.{eqb-true}
use Rattle.std.specs.Prelude.{IfSome}
use Rattle.std.proofs.lemmas.Bool.Decides.{nat_tests}
use Rattle.nc_decode.specs.declared.instruction.Flow.{Flow}
use Rattle.nc_decode.specs.declared.instruction.Flow.TheVariants.{Next, Branch, Jump, Call, IndirectJump, IndirectCall, Stop}
use Rattle.nc_decode.specs.Spelling.{mask, masks_of, register_of}
use Rattle.nc_base.proofs.Offered.{true_or_false}

-- what masks begins with 83
pub masks_begin : (xs : List ℕ) → masks_of xs ≢ None → get_or xs 0 0 ≡ 0x83
masks_begin [] h = absurd (h refl)
masks_begin (a ∷ []) h = absurd (h refl)
masks_begin (a ∷ b ∷ []) h = absurd (h refl)
masks_begin (a ∷ b ∷ c ∷ d ∷ xs) h = absurd (h refl)
masks_begin (a ∷ b ∷ c ∷ []) h =
    elim (true_or_false (a == 0x83)) [
      | inl is ↦ eqb-true a 0x83 is
      | inr is_not ↦ absurd (h (rw is_not refl))
    ]

-- three bytes that mask a register, one by one
three_bytes : (a b c r : ℕ) → masks_of (a ∷ b ∷ c ∷ []) ≡ Some r → (a ≡ 0x83) × (b ≡ 0xE0 + r) × (c ≡ 0xE0) × (r < 8) × (r ≢ 4)
three_bytes a b c r h = grind (arith, nat_tests)

-- bytes that mask a register are its mask
pub masks_only : (xs : List ℕ) (r : ℕ) → masks_of xs ≡ Some r → (xs ≡ mask r) × (r < 8) × (r ≢ 4)
masks_only [] r h = absurd cc
masks_only (a ∷ []) r h = absurd cc
masks_only (a ∷ b ∷ []) r h = absurd cc
masks_only (a ∷ b ∷ c ∷ d ∷ xs) r h = absurd cc
masks_only (a ∷ b ∷ c ∷ []) r h = let t = three_bytes a b c r h in (rw (t.0, t.1, t.2) refl, t.3, t.4)

-- the mask of a register masks it
pub mask_masks : (r : ℕ) → r < 8 → r ≢ 4 → masks_of (mask r) ≡ Some r
mask_masks r lt other = grind (arith, nat_tests)

-- a mask names a register from 0 to 7 other than 4
pub mask_register : (xs : List ℕ) → IfSome (masks_of xs) (λ r. (r < 8) × (r ≢ 4))
mask_register [] = tt
mask_register (a ∷ []) = tt
mask_register (a ∷ b ∷ []) = tt
mask_register (a ∷ b ∷ c ∷ d ∷ xs) = tt
mask_register (a ∷ b ∷ c ∷ []) = grind (arith, nat_tests)

-- an indirect transfer names a register from 0 to 7
pub transfer_register : (f : Flow) (operand : List ℕ) → register_of f operand < 8
transfer_register Next operand = omega arith
transfer_register Branch operand = omega arith
transfer_register Jump operand = omega arith
transfer_register Call operand = omega arith
transfer_register IndirectJump operand = omega arith
transfer_register IndirectCall operand = omega arith
transfer_register Stop operand = omega arith

-- a register that is masked
abbrev some_mask : ℕ → Option ℕ
some_mask r = Some r

-- what is nothing else is None
pub none_by : (o m : Option ℕ) → m ≡ o → (m ≢ None → ⊥) → m ≡ None
none_by None m is h = is
none_by (Some r) m is h = absurd (h (λ none. (let g : some_mask r ≡ None = sym is ∙ none in cc)))

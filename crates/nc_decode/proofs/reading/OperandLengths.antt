-- The length of an operand, and lists taken apart.
use Rattle.std.proofs.Common.{◌≡◌, ℕ, suc, ◌+◌, ◌<◌, ◌≤◌, Bool, true, false, List, [], ◌∷◌, ◌++◌, length, take, drop}
use Rattle.std.proofs.Common.{Result, Ok, Err, ◌==◌, ◌&&◌, refl, sym, ◌∙◌, ap, arith, inl, inr, append_assoc, ltb-false, nat_lt, All}
use Rattle.std.proofs.Common.{length-take, add-one}
use Rattle.std.specs.Prelude.{slice_index}
use Rattle.std.proofs.Math.Seq.{take-append-add, take-add}
use Rattle.std.proofs.lemmas.List.{get_or_default, get_or-take}
use Rattle.nc_decode.specs.declared.instruction.DecodeFault.{DecodeFault}
use Rattle.nc_decode.specs.declared.instruction.DecodeFault.TheVariants.{Truncated}
use Rattle.nc_decode.specs.Rows.{mod_of, rm_of}
use Rattle.nc_decode.specs.machinery.Shapes.{has_sib, sized_operand}
use Rattle.nc_decode.specs.Spelling.{operand_len, displacement_len}
use Rattle.nc_base.proofs.Offered.{true_or_false, cond_true, cond_false}
use Rattle.nc_decode.proofs.reading.EntryReads.{IsBytes}

-- ---- the length of an operand

-- without SIB the second byte doesn't matter
pub sib_counts : (modrm x y : ℕ) → has_sib modrm ≡ false → modrm < 256 → operand_len modrm x ≡ operand_len modrm y
sib_counts modrm x y no_sib lt =
    elim (true_or_false (rm_of modrm == 4)) [
      | inl sib ↦
          (let in_reg : nat_lt (mod_of modrm) 3 ≡ false = second (rm_of modrm == 4) (nat_lt (mod_of modrm) 3) sib no_sib in
          let three : 3 ≤ mod_of modrm = ltb-false _ _ in_reg in
          let is : mod_of modrm ≡ 3 = omega arith in
          rw (is) refl)
      | inr other ↦ rw other refl
    ]
  where
    second : (a b : Bool) → a ≡ true → (a && b) ≡ false → b ≡ false
    second true b e h = h
    second false b e h = absurd cc

-- an answer with a length
abbrev ok_len : ℕ → Result ℕ DecodeFault
ok_len n = Ok n

-- the answer that bytes are missing
abbrev cut : Result ℕ DecodeFault
cut = Err Truncated

-- an operand has at least one byte
operand_some : (modrm x : ℕ) → (j : ℕ) × (operand_len modrm x ≡ j + 1)
operand_some modrm x =
    elim (true_or_false ((rm_of modrm == 4) && nat_lt (mod_of modrm) 3)) [
      | inl two ↦ (1 + displacement_len modrm x, rw two (omega arith))
      | inr one ↦ (displacement_len modrm x, rw one (omega arith))
    ]

-- an operand with SIB has at least two bytes
operand_two : (modrm x : ℕ) → has_sib modrm ≡ true → (j : ℕ) × (operand_len modrm x ≡ j + 2)
operand_two modrm x two = (displacement_len modrm x, rw two (omega arith))

-- SIB is the first byte of the tail
front_first : (sib : ℕ) (tail : List ℕ) (j : ℕ) → slice_index (take (j + 1) (sib ∷ tail)) 0 ≡ sib
front_first sib tail j = rw add-one refl

-- what sized_operand gives is the length that the operand's own bytes have
pub sized_is : (modrm : ℕ) (tail : List ℕ) (k : ℕ) → modrm < 256 → sized_operand modrm tail ≡ Ok k → (j : ℕ) × (k ≡ j + 1)
    × (operand_len modrm (slice_index (take j tail) 0) ≡ k)
unfolding sized_operand
sized_is modrm [] k lt h =
    elim (true_or_false (has_sib modrm)) [
      | inl sib ↦ absurd (let f : cut ≡ Ok k = cond_true (has_sib modrm) cut _ (Ok k) sib h in cc)
      | inr no_sib ↦
          (let f : ok_len (operand_len modrm 0) ≡ Ok k = cond_false (has_sib modrm) cut (Ok (operand_len modrm 0)) (Ok k) no_sib h in
          let is : operand_len modrm 0 ≡ k = cc in
          let w = operand_some modrm 0 in
          (w.0, sym is ∙ w.1, sib_counts modrm _ 0 no_sib lt ∙ is))
    ]
sized_is modrm (sib ∷ tail) k lt h =
    elim (true_or_false (has_sib modrm)) [
      | inl two ↦
          (let f : ok_len (operand_len modrm sib) ≡ Ok k = cond_true (has_sib modrm) (Ok (operand_len modrm sib)) _ (Ok k) two h in
          let is : operand_len modrm sib ≡ k = cc in
          let w = operand_two modrm sib two in
          (w.0 + 1, sym is ∙ w.1 ∙ omega arith, ap (λ (x : ℕ). operand_len modrm x) (front_first sib tail w.0) ∙ is))
      | inr no_sib ↦
          (let f : ok_len (operand_len modrm 0) ≡ Ok k = cond_false (has_sib modrm) (Ok (operand_len modrm sib))
          (Ok (operand_len modrm 0)) (Ok k) no_sib h in
          let is : operand_len modrm 0 ≡ k = cc in
          let w = operand_some modrm 0 in
          (w.0, sym is ∙ w.1, sib_counts modrm _ 0 no_sib lt ∙ is))
    ]

-- ---- lists

-- the front of a header, an operand and more
pub front_is : (h : List ℕ) (m : ℕ) (tail : List ℕ) (k j : ℕ)
    → take (length h + (k + 1) + j) (h ++ m ∷ tail) ≡ (h ++ m ∷ take k tail) ++ take j (drop k tail)
front_is h m tail k j =
    let e : length h + (k + 1) + j ≡ length h + suc (k + j) = omega arith in
    rw e (take-append-add h (m ∷ tail) (suc (k + j))
    ∙ ap (λ (xs : List ℕ). h ++ m ∷ xs) (take-add k j tail)
    ∙ sym (append_assoc h (m ∷ take k tail) (take j (drop k tail))))

-- a front of bytes is bytes
pub all_front : (bytes : List ℕ) (n : ℕ) → IsBytes bytes → All (λ b. b < 256) (take n bytes)
all_front bytes n fits k d lt =
    let in_n : k < n = omega (arith, length-take n bytes) in
    let in_bytes : k < length bytes = omega (arith, length-take n bytes) in
    rw (get_or-take n bytes k d in_n, get_or_default bytes k d 0 in_bytes) (fits k)

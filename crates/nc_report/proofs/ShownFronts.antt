-- Text without control bytes, and a line of details in it.
use Rattle.std.proofs.Common.{◌≡◌, ℕ, zero, suc, ◌+◌, ◌<◌, ◌≤◌, Bool, true, List, [], ◌∷◌, ◌++◌, take, drop, length, refl, sym, ap, ◌∙◌, not, ◌==◌, ◌&&◌, arith, slice_index, slice_set}
use Rattle.std.specs.List.{list_all}
use Rattle.std.specs.Prelude.{nat_le}
use Rattle.std.proofs.lemmas.Bool.{and_parts, leb-true}
use Rattle.std.proofs.lemmas.List.{take-append-drop, take_more_set}
use Rattle.std.proofs.lemmas.List.Folds.{list_all-append}
use Rattle.nc_disasm.specs.Names.{is_printable}
use Rattle.nc_output.specs.Shown.{is_shown, detail_line}
use Rattle.nc_output.proofs.Offered.{eqb_no}

-- two tests that hold
both_hold : (a b : Bool) → a ≡ true → b ≡ true → (a && b) ≡ true
both_hold a b p q = ap (λ (z : Bool). z && b) p ∙ q

-- a printable character is no control byte
printable_shown : (b : ℕ) → is_printable b ≡ true → is_shown b ≡ true
printable_shown b printable =
    let parts = and_parts _ _ printable in
    let high = leb-true _ _ parts.1 in
    both_hold (nat_le 0x20 b) (not (b == 0x7F)) parts.0 (ap not (eqb_no b 0x7F (λ e. omega (arith, high, e))))

-- nor are printable characters
pub all_shown : (text : List ℕ) → list_all is_printable text ≡ true → list_all is_shown text ≡ true
all_shown [] printable = refl
all_shown (b ∷ more) printable =
    let parts = and_parts _ _ printable in
    both_hold (is_shown b) (list_all is_shown more) (printable_shown b parts.0) (all_shown more parts.1)

-- of text without control bytes neither the first bytes nor the others have any
parts_shown : (n : ℕ) (text : List ℕ) → list_all is_shown text ≡ true
    → (list_all is_shown (take n text) ≡ true) × (list_all is_shown (drop n text) ≡ true)
parts_shown n text all =
    and_parts _ _ (sym (list_all-append is_shown (take n text) (drop n text))
    ∙ ap (λ (z : List ℕ). list_all is_shown z) (take-append-drop n text) ∙ all)

-- a line in the text
abbrev pub line_in : List ℕ → ℕ → List ℕ
line_in text len = drop 2 (take len text)

-- it has no control bytes if the text has none
pub line_shown : (text : List ℕ) (len : ℕ) → list_all is_shown text ≡ true → list_all is_shown (line_in text len) ≡ true
line_shown text len all = (parts_shown 2 (take len text) (parts_shown len text all).0).1

-- text that begins with two spaces
begins : (text : List ℕ) (len : ℕ) → 2 ≤ len → len < length text → slice_index text 0 ≡ 32 → slice_index text 1 ≡ 32
    → take len text ≡ 32 ∷ 32 ∷ line_in text len
begins [] len low high first second = absurd (omega (arith, high))
begins (x ∷ []) len low high first second = absurd (omega (arith, low, high))
begins (x ∷ y ∷ rest) zero low high first second = absurd (omega (arith, low))
begins (x ∷ y ∷ rest) (suc zero) low high first second = absurd (omega (arith, low))
begins (x ∷ y ∷ rest) (suc (suc n)) low high first second =
    ap (λ (a : ℕ). a ∷ y ∷ take n rest) first ∙ ap (λ (b : ℕ). 32 ∷ b ∷ take n rest) second

-- two spaces, the line and its end
pub line_ended : (text : List ℕ) (len : ℕ) → 2 ≤ len → len < length text → slice_index text 0 ≡ 32 → slice_index text 1 ≡ 32
    → take (len + 1) (slice_set text len 10) ≡ detail_line (line_in text len)
line_ended text len low high first second =
    take_more_set text len 10 high ∙ ap (λ (z : List ℕ). z ++ 10 ∷ []) (begins text len low high first second)

-- Targets as offsets from the base, and a word of starts for each bundle.
use Rattle.std.proofs.Common.{◌≡◌, ℕ, ◌+◌, ◌-◌, ◌*◌, ◌/◌, ◌%◌, ◌^◌, ◌<◌, ◌≤◌, List, length, get_or, true, false, refl, sym, subst, ◌∙◌, ap, arith}
use Rattle.std.proofs.Common.{Fits, w8, w32, bit_and}
use Rattle.std.specs.Prelude.{slice_index, drop}
use Rattle.std.specs.Int.{bit_at, bit_not, from_le_bytes, cast_signed, cast_unsigned}
use Rattle.byteorder.specs.Endian.{little_number}
use Rattle.std.proofs.lemmas.List.{get_or-drop}
use Rattle.std.proofs.lemmas.Int.{of_z-to_z}
use Rattle.std.proofs.lemmas.Nat.Bits.{bit_at-lt, bit_at_and, bit_at_not, bit_at_cat_low, shr_and_one}
use Rattle.nc_decode.specs.declared.instruction.Mark.TheVariants.{Plain}
use Rattle.nc_decode.specs.declared.bundle.Bundle.{Bundle}
use Rattle.nc_decode.specs.Bits.{starts_instruction, is_second, bit_mark, no_bits, mark_by_bits}
use Rattle.nc_vet.specs.machinery.Judged.{short_to, near_to, IsGood, AreStarts}
use Rattle.nc_vet.proofs.BitPlaces.{start_bit, second_bit}

-- a bit of the word of starts is set only at a start
pub start_in_word : (w : Bundle) (starts k : ℕ) → starts ≡ 2 * w.ends + 1 → k < 32
    → bit_at (bit_and (starts % 2 ^ 32) (bit_not w32 (w.pairs / 2))) k ≡ 1 → starts_instruction w k ≡ true
start_in_word w starts k is lt set =
    let low : bit_at (starts % 2 ^ 32) k ≡ 1
    = omega (arith, set, bit_at_and (starts % 2 ^ 32) (bit_not w32 (w.pairs / 2)) k, bit_at-lt (starts % 2 ^ 32) k) in
    let whole : bit_at starts k ≡ 1
    = ap (λ (n : ℕ). bit_at n k) {x = starts} {y = starts / 2 ^ 32 * 2 ^ 32 + starts % 2 ^ 32} (omega arith)
    ∙ bit_at_cat_low (starts / 2 ^ 32) 32 (starts % 2 ^ 32) k lt ∙ low in
    start_bit w k starts is (shr_and_one starts k ∙ whole)

-- a bit of the word of starts isn't set at a second half
pub second_in_word : (w : Bundle) (starts k : ℕ) → w.pairs < 2 ^ 32 → k < 32
    → bit_at (bit_and (starts % 2 ^ 32) (bit_not w32 (w.pairs / 2))) k ≡ 1 → is_second w k ≡ false
second_in_word w starts k small lt set =
    let high : bit_at (bit_not w32 (w.pairs / 2)) k ≡ 1
    = omega (arith, set, bit_at_and (starts % 2 ^ 32) (bit_not w32 (w.pairs / 2)) k, bit_at-lt (bit_not w32 (w.pairs / 2)) k) in
    second_bit w k (shr_and_one (w.pairs / 2) k
    ∙ omega (arith, high, bit_at_not w32 (w.pairs / 2) k (omega (arith, small)) lt))

-- the mark at a start that is no second half
plain_mark : (w : Bundle) (k next : ℕ) → starts_instruction w k ≡ true → is_second w k ≡ false → bit_mark w k next ≡ Plain
plain_mark w k next start second = rw second (rw start refl)

-- an offset in the chunk whose bit is set is a permitted target
pub good_inside : (base limit : ℕ) (code : List ℕ) (bundles : List Bundle) (starts : List ℕ) (offset : ℕ)
    → length code ≡ 32 * length bundles → AreStarts bundles starts → base + 32 * length starts < 2 ^ 32 → offset / 32 < length starts
    → bit_at (get_or starts (offset / 32) 0) (offset % 32) ≡ 1 → IsGood base limit code bundles ((base + offset) % 2 ^ 32)
good_inside base limit code bundles starts offset each h fits lt set =
    let to : (base + offset) % 2 ^ 32 ≡ base + offset = omega (arith, fits, lt) in
    let back : (base + offset) % 2 ^ 32 - base ≡ offset = omega (arith, to) in
    let known : offset / 32 < length bundles = omega (arith, lt, h.long) in
    record {
      inside = λ le within. subst (λ (k : ℕ). mark_by_bits code bundles k ≡ Plain) (sym back)
          (plain_mark (get_or bundles (offset / 32) no_bits) (offset % 32) _
          (h.start (offset / 32) (offset % 32) known (omega arith) set) (h.second (offset / 32) (offset % 32) known (omega arith) set));
      outside = λ no. absurd (no (omega (arith, to)) (omega (arith, back, lt, each, h.long)));
    }

-- an offset outside the chunk is a permitted target if a bundle below the limit begins there
pub good_outside : (base limit : ℕ) (code : List ℕ) (bundles : List Bundle) (starts : List ℕ) (offset to : ℕ)
    → length code ≡ 32 * length bundles → AreStarts bundles starts → base + 32 * length starts < 2 ^ 32 → length starts ≤ offset / 32
    → offset < 2 ^ 32 → to ≡ (base + offset) % 2 ^ 32 → to % 32 ≡ 0 → to < limit
    → IsGood base limit code bundles ((base + offset) % 2 ^ 32)
good_outside base limit code bundles starts offset to each h fits out small is aligned low = record {
  inside = λ le within. absurd (omega (arith, le, within, each, h.long, fits, out, small));
  outside = λ no. (omega (arith, is, aligned), omega (arith, is, low));
}

-- a target that is given by its offset from the base
pub by_offset : (base limit : ℕ) (code : List ℕ) (bundles : List Bundle) (at displacement offset : ℕ)
    → offset ≡ (0 + at + 1 + displacement) % 2 ^ 32 → IsGood base limit code bundles ((base + offset) % 2 ^ 32)
    → IsGood base limit code bundles ((base + at + 1 + displacement) % 2 ^ 32)
by_offset base limit code bundles at displacement offset is good =
    subst (IsGood base limit code bundles) {x = (base + offset) % 2 ^ 32} {y = (base + at + 1 + displacement) % 2 ^ 32} (omega (arith, is)) good

-- four bytes spell the same number in the terms of both libraries
same_number : (xs : List ℕ) → little_number 4 xs ≡ from_le_bytes w32 xs
same_number xs = omega arith

-- a target with a displacement of four bytes, as an offset
pub near_offset : (code : List ℕ) (at word : ℕ) → word < 2 ^ 32 → word ≡ little_number 4 (drop (at - 3) code)
    → (at + 1 + word) % 2 ^ 32 ≡ near_to 0 code at
near_offset code at word small is =
    let zero_added : (at + 1 + word) % 2 ^ 32 ≡ (0 + at + 1 + word) % 2 ^ 32 = omega arith in
    zero_added
    ∙ ap (λ (n : ℕ). (0 + at + 1 + n) % 2 ^ 32)
    (sym (of_z-to_z w32 word small) ∙ ap (λ (n : ℕ). cast_unsigned w32 (cast_signed w32 n)) (is ∙ same_number (drop (at - 3) code)))

-- the last of four bytes is the highest of the number that they spell
top_byte : (code : List ℕ) (at word : ℕ) → 3 ≤ at → ((i : ℕ) → Fits w8 (get_or code i 0)) → word ≡ little_number 4 (drop (at - 3) code)
    → word / 16777216 ≡ slice_index code at
top_byte code at word four small is =
    ap (λ (n : ℕ). n / 16777216) (is ∙ same_number (drop (at - 3) code))
    ∙ (omega (arith, below 0, below 1, below 2)
    ∙ (get_or-drop (at - 3) code 3 0 ∙ ap (λ (i : ℕ). get_or code i 0) {x = at - 3 + 3} {y = at} (omega (arith, four))))
  where
    below : (i : ℕ) → get_or (drop (at - 3) code) i 0 < 256
    below i = omega (arith, get_or-drop (at - 3) code i 0, small (at - 3 + i))

-- a target with a displacement of one byte, the last of four, as an offset
pub short_offset : (code : List ℕ) (at word offset : ℕ) → 3 ≤ at → ((i : ℕ) → Fits w8 (get_or code i 0))
    → word ≡ little_number 4 (drop (at - 3) code) → offset ≡ (at + 1 + cast_unsigned w32 (cast_signed w8 (word / 16777216))) % 2 ^ 32
    → offset ≡ short_to 0 code at
short_offset code at word offset four small is sum =
    let zero_added : (at + 1 + cast_unsigned w32 (cast_signed w8 (word / 16777216))) % 2 ^ 32
    ≡ (0 + at + 1 + cast_unsigned w32 (cast_signed w8 (word / 16777216))) % 2 ^ 32 = omega arith in
    sum
    ∙ (zero_added ∙ ap (λ (n : ℕ). (0 + at + 1 + cast_unsigned w32 (cast_signed w8 n)) % 2 ^ 32) (top_byte code at word four small is))

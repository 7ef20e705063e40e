-- The digits of a span of the region, one byte more at a time.
use Rattle.std.proofs.Common.{◌≡◌, ℕ, ◌+◌, ◌-◌, ◌<◌, ◌≤◌, List, [], ◌∷◌, ◌++◌, get_or, slice_index, ◌/◌, ◌%◌, take, drop, refl, sym, ap}
use Rattle.std.proofs.Common.{◌∙◌, append_assoc, append-nil, arith}
use Rattle.std.proofs.lemmas.List.{take_more, get_or-drop, length-drop}
use Rattle.hex.specs.Hex.{encode_with, encode_lower, lower_digits}
use Rattle.nc_text.specs.Places.{limit_of, byte_at}
use Rattle.nc_script.specs.machinery.Session.{bytes_at}

-- digits of bytes, one after the other
encode_with-append : (t xs ys : List ℕ) → encode_with t (xs ++ ys) ≡ encode_with t xs ++ encode_with t ys
unfolding encode_with
encode_with-append t [] ys = refl
encode_with-append t (x ∷ xs) ys = ap (λ (zs : List ℕ). slice_index t (x / 16) ∷ slice_index t (x % 16) ∷ zs) (encode_with-append t xs ys)

-- a span goes on by a byte
bytes_at-more : (bytes : List ℕ) (base n : ℕ) → 0x10000 ≤ base → base + n < limit_of bytes
    → bytes_at bytes base (n + 1) ≡ bytes_at bytes base n ++ byte_at bytes (base + n) ∷ []
bytes_at-more bytes base n low high =
    take_more (drop (base - 0x10000) bytes) n 0 (omega (arith, length-drop (base - 0x10000) bytes))
    ∙ ap (λ (b : ℕ). take n (drop (base - 0x10000) bytes) ++ b ∷ [])
    (get_or-drop (base - 0x10000) bytes n 0 ∙ ap (λ (k : ℕ). get_or bytes k 0) (omega arith))

-- the digits of the next byte come after those of the bytes before
pub digits_more : (bytes start now new : List ℕ) (base at : ℕ) → 0x10000 ≤ base → base ≤ at → at < limit_of bytes
    → now ≡ start ++ encode_lower (bytes_at bytes base (at - base)) → new ≡ now ++ encode_lower (byte_at bytes at ∷ [])
    → new ≡ start ++ encode_lower (bytes_at bytes base (at + 1 - base))
digits_more bytes start now new base at low from high e f =
    let n = at - base in
    let back : base + n ≡ at = omega arith in
    f ∙ ap (λ (xs : List ℕ). xs ++ encode_lower (byte_at bytes at ∷ [])) e
    ∙ append_assoc start (encode_lower (bytes_at bytes base n)) (encode_lower (byte_at bytes at ∷ []))
    ∙ ap (λ (xs : List ℕ). start ++ xs)
    (sym (encode_with-append lower_digits (bytes_at bytes base n) (byte_at bytes at ∷ []))
    ∙ ap encode_lower (ap (λ (k : ℕ). bytes_at bytes base n ++ byte_at bytes k ∷ []) (sym back)
    ∙ sym (bytes_at-more bytes base n low (omega arith)) ∙ ap (bytes_at bytes base) (omega arith)))

-- before the first byte of a span no digit is written
pub digits_none : (bytes start : List ℕ) (base : ℕ) → start ≡ start ++ encode_lower (bytes_at bytes base (base - base))
unfolding encode_with
digits_none bytes start base =
    let none : base - base ≡ 0 = omega arith in
    sym (append-nil start) ∙ ap (λ (n : ℕ). start ++ encode_lower (bytes_at bytes base n)) (sym none)

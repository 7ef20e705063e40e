-- Machinery of the proofs, cited by no public contract: the values of hexadecimal digits, by a table and by vectors.
use Rattle.std.specs.Prelude.{◌≡◌, ◌<◌, ◌≤◌, ◌*◌, ◌+◌, ◌%◌, ◌++◌, ℕ, List, Option, Some, None, Ok, if◌then◌else◌, bit_or, length, nat_lt, slice_index, take, drop}
use Rattle.hex.specs.Hex.{decode_pairs, hex_digit_value, ◌>>=◌}

-- the entry for this value of a digit; 256 for a byte that is none
abbrev pub digit_entry : Option ℕ → ℕ
digit_entry (Some value) = value
digit_entry None = 256

-- each byte's entry is that of its value as a digit
abbrev pub AreDigitValues : List ℕ → Type 0
AreDigitValues values = (c : ℕ) → c < 256 → slice_index values c ≡ digit_entry (hex_digit_value c)

-- the value of a byte as a digit by the arithmetic of a lane, above 15 where it is none
abbrev pub lane_value : ℕ → ℕ
lane_value c =
    let decimal = (c + 208) % 256 in
    let letter = (bit_or c 32 + 159) % 256 in
    if nat_lt decimal 10 then decimal else ((if nat_lt letter 245 then letter else 245) + 10) % 256

-- the first pairs of digits are decoded: what is decoded of the others comes after their bytes
pub record IsDecodedTo (digits bytes : List ℕ) (done : ℕ) : Type 0 where
  pub within : done ≤ length bytes
  pub rest : decode_pairs 0 digits ≡ (decode_pairs (2 * done) (drop (2 * done) digits) >>= (λ bytes_after. Ok (take done bytes ++ bytes_after)))

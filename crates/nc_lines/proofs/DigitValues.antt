-- The table of the values of digits, and pairs of digits by their entries.
use Rattle.std.proofs.Common.{◌≡◌, ◌+◌, ◌*◌, ◌<◌, ◌≤◌, ◌==◌, ℕ, Bool, true, List, Option, Some, None, slice_index, Ok, Err}
use Rattle.std.proofs.Common.{refl, sym, ap, ◌∙◌, subst, arith}
use Rattle.std.proofs.lemmas.Bool.{eqb-true}
use Rattle.hex.specs.Hex.{hex_digit_value, digit_or_error, pair_value, ◌>>=◌}
use Rattle.hex.specs.declared.error.FromHexError.{FromHexError}
use Rattle.nc_base.proofs.Offered.{each_below, each_below-at}
use Rattle.nc_lines.specs.machinery.Digits.{digit_entry, AreDigitValues}
use Rattle.nc_lines.specs.declared.words.TheConstants.{VALUES}

-- the test of an entry of the table
abbrev is_entered : ℕ → Bool
is_entered c = slice_index VALUES c == digit_entry (hex_digit_value c)

-- all entries of the table pass the test of their value
all_entered : each_below is_entered 256 ≡ true
all_entered = refl

-- the table has the values of digits
pub values_are : AreDigitValues VALUES
values_are c below = eqb-true (slice_index VALUES c) (digit_entry (hex_digit_value c)) (each_below-at is_entered 256 c all_entered below)

-- a digit's value is below 16
digit_small : (c v : ℕ) → hex_digit_value c ≡ Some v → v < 16
digit_small c v h = grind (arith)

-- no entry is above 256
entry_most : (o : Option ℕ) → ((v : ℕ) → o ≡ Some v → v < 16) → digit_entry o ≤ 256
entry_most (Some v) small = let below : v < 16 = small v refl in omega arith
entry_most None small = omega arith

-- no entry of a table of digits' values is above 256
pub entries_most : (values : List ℕ) (c : ℕ) → AreDigitValues values → c < 256 → slice_index values c ≤ 256
entries_most values c are below =
    subst (λ (n : ℕ). n ≤ 256) (sym (are c below)) (entry_most (hex_digit_value c) (digit_small c))

-- two digits, of whose values neither is missing, are the byte
pub read_pair : (high low i byte : ℕ) (a b : Option ℕ) → byte ≡ digit_entry a * 16 + digit_entry b → byte ≤ 255
    → (digit_or_error high i a >>= (λ h. digit_or_error low (i + 1) b >>= (λ l. Ok (h * 16 + l)))) ≡ Ok byte
read_pair high low i byte (Some h) (Some l) e small = ap Ok (sym e)
read_pair high low i byte (Some h) None e small = absurd (omega arith)
read_pair high low i byte None b e small = absurd (omega arith)

-- two bytes of which one is no digit are refused
bad_pair : (high low i byte : ℕ) (a b : Option ℕ) → ((v : ℕ) → a ≡ Some v → v < 16) → ((v : ℕ) → b ≡ Some v → v < 16)
    → byte ≡ digit_entry a * 16 + digit_entry b → 255 < byte
    → (error : FromHexError) × ((digit_or_error high i a >>= (λ h. digit_or_error low (i + 1) b >>= (λ l. Ok (h * 16 + l)))) ≡ Err error)
bad_pair high low i byte (Some h) (Some l) p q e large =
    let hs : h < 16 = p h refl in
    let ls : l < 16 = q l refl in
    absurd (omega arith)
bad_pair high low i byte (Some h) None p q e large = (_, refl)
bad_pair high low i byte None b p q e large = (_, refl)

-- by a table of their values, two digits are the byte
pub pair_read : (values : List ℕ) (high low i byte : ℕ) → AreDigitValues values → high < 256 → low < 256
    → byte ≡ slice_index values high * 16 + slice_index values low → byte ≤ 255 → pair_value high low i ≡ Ok byte
pair_read values high low i byte are hb lb e small =
    read_pair high low i byte (hex_digit_value high) (hex_digit_value low)
    (e ∙ ap (λ (n : ℕ). n * 16 + slice_index values low) (are high hb) ∙ ap (λ (n : ℕ). digit_entry (hex_digit_value high) * 16 + n) (are low lb))
    small

-- by a table of their values, two bytes of which one is no digit are refused
pub pair_refused : (values : List ℕ) (high low i byte : ℕ) → AreDigitValues values → high < 256 → low < 256
    → byte ≡ slice_index values high * 16 + slice_index values low → 255 < byte
    → (error : FromHexError) × (pair_value high low i ≡ Err error)
pair_refused values high low i byte are hb lb e large =
    bad_pair high low i byte (hex_digit_value high) (hex_digit_value low) (digit_small high) (digit_small low)
    (e ∙ ap (λ (n : ℕ). n * 16 + slice_index values low) (are high hb) ∙ ap (λ (n : ℕ). digit_entry (hex_digit_value high) * 16 + n) (are low lb))
    large

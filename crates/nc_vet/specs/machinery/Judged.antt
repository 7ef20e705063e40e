-- The targets of direct transfers, by the bits of bundles; machinery of the proofs, cited by no public contract.
use Rattle.std.specs.Prelude.{◌≡◌, ℕ, ◌+◌, ◌-◌, ◌*◌, ◌/◌, ◌%◌, ◌^◌, ◌<◌, ◌≤◌, true, false, List, length, drop, get_or, slice_index}
use Rattle.std.specs.Int.{bit_at, w8, w32, cast_signed, cast_unsigned, from_le_bytes}
use Rattle.nc_decode.specs.declared.instruction.Mark.TheVariants.{Plain}
use Rattle.nc_decode.specs.declared.bundle.Bundle.{Bundle}
use Rattle.nc_decode.specs.Bits.{starts_instruction, is_second, no_bits, mark_by_bits}

-- the target of a transfer whose displacement is the byte at place k
abbrev pub short_to : ℕ → List ℕ → ℕ → ℕ
short_to base code k = (base + k + 1 + cast_unsigned w32 (cast_signed w8 (slice_index code k))) % 2 ^ 32

-- the target of a transfer whose displacement is the four bytes that end with the byte at place k
abbrev pub near_to : ℕ → List ℕ → ℕ → ℕ
near_to base code k = (base + k + 1 + cast_unsigned w32 (cast_signed w32 (from_le_bytes w32 (drop (k - 3) code)))) % 2 ^ 32

-- a direct transfer may go to this address
pub record IsGood (base limit : ℕ) (code : List ℕ) (bundles : List Bundle) (to : ℕ) : Type 0 where
  pub inside : base ≤ to → to - base < length code → mark_by_bits code bundles (to - base) ≡ Plain
  pub outside : (base ≤ to → to - base < length code → ⊥) → (to % 32 ≡ 0) × (to < limit)

-- one word for each bundle; its bit k is set only if an instruction that isn't the second half of a pair begins at byte k
pub record AreStarts (bundles : List Bundle) (starts : List ℕ) : Type 0 where
  pub start : (n k : ℕ) → n < length bundles → k < 32 → bit_at (get_or starts n 0) k ≡ 1
      → starts_instruction (get_or bundles n no_bits) k ≡ true
  pub second : (n k : ℕ) → n < length bundles → k < 32 → bit_at (get_or starts n 0) k ≡ 1
      → is_second (get_or bundles n no_bits) k ≡ false
  pub long : length starts ≡ length bundles

-- the transfers with one-byte displacements and these last bytes, counted from `start`, have permitted targets
abbrev pub AreGoodShorts : ℕ → ℕ → List ℕ → List Bundle → ℕ → ℕ → Type 0
AreGoodShorts base limit code bundles start ends = (k : ℕ) → k < 64 → bit_at ends k ≡ 1
    → IsGood base limit code bundles (short_to base code (start + k))

-- the transfers with four-byte displacements and these last bytes, counted from `start`, have permitted targets
abbrev pub AreGoodNears : ℕ → ℕ → List ℕ → List Bundle → ℕ → ℕ → Type 0
AreGoodNears base limit code bundles start ends = (k : ℕ) → k < 64 → bit_at ends k ≡ 1
    → IsGood base limit code bundles (near_to base code (start + k))

-- the transfer that ends at place `at` has a permitted target, with a displacement of four bytes if the bits say so, or else of one
pub record IsGoodEnd (base limit : ℕ) (code : List ℕ) (bundles : List Bundle) (at : ℕ) : Type 0 where
  pub short : bit_at (get_or bundles (at / 32) no_bits).nears (at % 32) ≡ 0 → IsGood base limit code bundles (short_to base code at)
  pub near : bit_at (get_or bundles (at / 32) no_bits).nears (at % 32) ≡ 1 → IsGood base limit code bundles (near_to base code at)

-- all direct transfers of bundle n have permitted targets
pub record IsJudged (base limit : ℕ) (code : List ℕ) (bundles : List Bundle) (n : ℕ) : Type 0 where
  pub shorts : (k : ℕ) → k < 32 → bit_at (get_or bundles n no_bits).shorts k ≡ 1
      → IsGood base limit code bundles (short_to base code (32 * n + k))
  pub nears : (k : ℕ) → k < 32 → bit_at (get_or bundles n no_bits).nears k ≡ 1
      → IsGood base limit code bundles (near_to base code (32 * n + k))

-- all direct transfers of the first `count` bundles have permitted targets
abbrev pub AreJudged : ℕ → ℕ → List ℕ → List Bundle → ℕ → Type 0
AreJudged base limit code bundles count = (n : ℕ) → n < count → IsJudged base limit code bundles n

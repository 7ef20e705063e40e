-- Lists of the places at which direct transfers end; machinery of the proofs, cited by no public contract.
use Rattle.std.specs.Prelude.{◌≡◌, ℕ, ◌+◌, ◌-◌, ◌*◌, ◌<◌, ◌≤◌, ◌⊎◌, List, length, get_or, min, count_ones}
use Rattle.std.specs.Int.{bit_at}
use Rattle.nc_decode.specs.declared.bundle.Bundle.{Bundle}
use Rattle.nc_decode.specs.Bits.{no_bits}

-- one of the entries from index `low` on and before index `high` is x
pub record IsListed (list : List ℕ) (low high x : ℕ) : Type 0 where
  pub index : ℕ
  pub after : low ≤ index
  pub before : index < high
  pub is : get_or list index 0 ≡ x

-- all entries are below a bound
abbrev pub AreBelow : ℕ → List ℕ → Type 0
AreBelow bound list = (i : ℕ) → get_or list i 0 < bound

-- `new` is `old` with `done` entries from index `start` on: of a word's set bits, each either is left or has its place, counted
-- from `from`, among the first of these entries
pub record HasAdded (old new : List ℕ) (start from bits done left : ℕ) : Type 0 where
  pub each : (k : ℕ) → k < 64 → bit_at bits k ≡ 1
      → (bit_at left k ≡ 1) ⊎ IsListed new start (start + min done (count_ones bits)) (from + k)
  pub fewer : count_ones left ≡ count_ones bits - done
  pub kept : (i : ℕ) → i < start → get_or new i 0 ≡ get_or old i 0
  pub small : (bound : ℕ) → from + 64 ≤ bound → AreBelow bound old → AreBelow bound new

-- the ends of the direct transfers of the bundles from `start` on and before `end` are among the first `count` entries
abbrev pub AreListed : List Bundle → List ℕ → ℕ → ℕ → ℕ → Type 0
AreListed bundles list count start end = (n k : ℕ) → start ≤ n → n < end → k < 32
    → (bit_at (get_or bundles n no_bits).shorts k ≡ 1) ⊎ (bit_at (get_or bundles n no_bits).nears k ≡ 1)
    → IsListed list 0 count (32 * n + k)

-- no byte ends two transfers
abbrev pub AreEndsApart : List Bundle → Type 0
AreEndsApart bundles = (n k : ℕ) → n < length bundles → k < 32 → bit_at (get_or bundles n no_bits).shorts k ≡ 1
    → bit_at (get_or bundles n no_bits).nears k ≡ 0

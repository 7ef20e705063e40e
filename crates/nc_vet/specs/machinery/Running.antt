-- Running the automaton over bundles; machinery of the proofs, cited by no public contract.
use Rattle.std.specs.Prelude.{◌≡◌, ◌≢◌, ℕ, ◌+◌, ◌-◌, ◌*◌, ◌%◌, ◌^◌, ◌<◌, ◌≤◌, List, [], ◌∷◌, ◌++◌, length, take, drop, get_or, slice_index}
use Rattle.std.specs.Prelude.{◌==◌, nat_le, if◌then◌else◌, ⊤}
use Rattle.std.specs.Int.{bit_at}
use Rattle.nc_decode.specs.declared.automaton.TheConstants.{END, AFTER_SHORT, AFTER_NEAR, AFTER_PAIR}
use Rattle.nc_decode.specs.Automaton.{next_state}
use Rattle.nc_decode.specs.declared.bundle.Bundle.{Bundle}
use Rattle.nc_vet.specs.States.{states_after}
use Rattle.nc_vet.specs.declared.vetted.Marks.{Marks}
use Rattle.nc_vet.specs.declared.vetted.Marks.TheVariants.{Bits, Each}
use Rattle.nc_decode.specs.Bits.{no_bits}

-- the state after some bytes, from state s
abbrev pub run : ℕ → List ℕ → ℕ
run s [] = s
run s (b ∷ bs) = run (next_state s b) bs

-- the state after the byte at place k, if each bundle begins in `END`
unfoldable pub state_after : List ℕ → ℕ → ℕ
state_after code k = run END (take (k % 32 + 1) (drop (k - k % 32) code))

-- the state before the byte at place k, given the states S after each byte
abbrev pub state_before : (ℕ → ℕ) → ℕ → ℕ
state_before S k = if k % 32 == 0 then END else S (k - 1)

-- the bits of the bundle agree with the states after its 32 bytes
pub record TellsStates (states : List ℕ) (w : Bundle) : Type 0 where
  pub ends : (k : ℕ) → k < 32 → (bit_at w.ends k == 1) ≡ nat_le END (get_or states k 0)
  pub pairs : (k : ℕ) → k < 32 → (bit_at w.pairs k == 1) ≡ (get_or states k 0 == AFTER_PAIR)
  pub shorts : (k : ℕ) → k < 32 → (bit_at w.shorts k == 1) ≡ (get_or states k 0 == AFTER_SHORT)
  pub nears : (k : ℕ) → k < 32 → (bit_at w.nears k == 1) ≡ (get_or states k 0 == AFTER_NEAR)
  pub small : w.pairs < 2 ^ 32

-- the state after the first i bytes of the bundle that begins at place `at`
abbrev pub entered : List ℕ → ℕ → ℕ → ℕ
entered code at i = if i == 0 then END else state_after code (at + i - 1)

-- the first i bytes of a bundle are read: `states` has the state before the first of them, the state after each, and a 0 at its
-- end, and `state` leads to the states after the other bytes
pub record LaneHasRead (bytes : List ℕ) (i state : ℕ) (states : List ℕ) : Type 0 where
  pub so_far : take (i + 1) states ++ states_after state (drop i bytes) ≡ END ∷ states_after END bytes
  pub long : length states ≡ 34
  pub end : get_or states 33 0 ≡ 0

-- `last` are the states of eight bundles, the first of which begins at place `at`, after the first i bytes of each, and `states`
-- those after each of these bytes, 32 for each bundle
pub record HaveRun (code : List ℕ) (at i : ℕ) (last states : List ℕ) : Type 0 where
  pub now : (n : ℕ) → n < 8 → get_or last n 0 ≡ entered code (at + 32 * n) i
  pub each : (n k : ℕ) → n < 8 → k < i → get_or states (32 * n + k) 0 ≡ state_after code (at + 32 * n + k)
  pub long : length states ≡ 256

-- the states after the bytes of eight bundles, the first of which begins at place `at`
abbrev pub AreEightRuns : List ℕ → ℕ → List ℕ → Type 0
AreEightRuns code at states = (n k : ℕ) → n < 8 → k < 32 → get_or states (32 * n + k) 0 ≡ state_after code (at + 32 * n + k)

-- the bits agree with the states after the bytes of the bundle that begins at place `at`
pub record TellsBundle (code : List ℕ) (at : ℕ) (w : Bundle) : Type 0 where
  pub ends : (k : ℕ) → k < 32 → (bit_at w.ends k == 1) ≡ nat_le END (state_after code (at + k))
  pub pairs : (k : ℕ) → k < 32 → (bit_at w.pairs k == 1) ≡ (state_after code (at + k) == AFTER_PAIR)
  pub shorts : (k : ℕ) → k < 32 → (bit_at w.shorts k == 1) ≡ (state_after code (at + k) == AFTER_SHORT)
  pub nears : (k : ℕ) → k < 32 → (bit_at w.nears k == 1) ≡ (state_after code (at + k) == AFTER_NEAR)
  pub small : w.pairs < 2 ^ 32

-- the bits of each bundle agree with the states after its bytes, and an instruction ends at the end of each
abbrev pub AreTold : List ℕ → List Bundle → Type 0
AreTold code bundles = (n : ℕ) → n < length bundles → TellsBundle code (32 * n) (get_or bundles n no_bits)
    × (END ≤ state_after code (32 * n + 31))

-- The bits of the first bundles of the code are right (`AreTold`), and reading may continue at a place: directly after
-- them, or in the next bundle after the end of an instruction that, by its last byte, isn't a mask.
pub record EndsFront (code : List ℕ) (bundles : List Bundle) (at : ℕ) : Type 0 where
  pub told : AreTold code bundles
  pub low : 32 * length bundles ≤ at
  pub near : at ≤ 32 * length bundles + 32
  pub high : at ≤ length code
  pub ended : 32 * length bundles < at → (END ≤ state_after code (at - 1)) × (slice_index code (at - 1) ≢ 0xE0)

-- if the marks are kept as bits, the bits agree with the states after the bytes of all bundles of the code
abbrev pub AreBitsTold : List ℕ → Marks → Type 0
AreBitsTold code (Bits bundles) = AreTold code bundles.items × (length code ≡ 32 * length bundles.items)
AreBitsTold code (Each marks) = ⊤

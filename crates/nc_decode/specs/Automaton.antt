-- The automaton that reads one byte at a time, and the meaning of its states.
use Rattle.std.specs.Prelude.{ℕ, ◌≡◌, ◌+◌, ◌-◌, ◌/◌, ◌%◌, ◌<◌, ◌≤◌, ◌⊎◌, List, [], ◌∷◌, length, drop, slice_index, get_or, Option, Some, None}
use Rattle.std.specs.Prelude.{IsTrue, All, ◌==◌, if◌then◌else◌}
use Rattle.std.specs.Int.{w8, w32, cast_signed, from_le_bytes}
use Rattle.nc_decode.specs.declared.automaton.TheConstants.{ROWS, STATES, END, AFTER_MASK, AFTER_SHORT, AFTER_NEAR, AFTER_PAIR}
use Rattle.nc_decode.specs.declared.instruction.Instr.{Instr}
use Rattle.nc_decode.specs.Spelling.{Spells}
use Rattle.nc_decode.specs.Transfers.{is_direct, is_indirect}

-- the state after one more byte, by the program's table `ROWS`, which has the places of rows of 257 numbers
unfoldable pub next_state : ℕ → ℕ → ℕ
next_state s b = get_or (get_or ROWS s []) b 0 / 257

-- the register masked directly before a state, if any
abbrev pub masked_at : ℕ → Option ℕ
masked_at s =
    if s == AFTER_MASK then Some 0
    else (if s == AFTER_MASK + 1 then Some 1
    else (if s == AFTER_MASK + 2 then Some 2
    else (if s == AFTER_MASK + 3 then Some 3
    else (if s == AFTER_MASK + 4 then Some 5
    else (if s == AFTER_MASK + 5 then Some 6
    else (if s == AFTER_MASK + 6 then Some 7 else None))))))

-- the bytes lead from state `s` to `e`, the first state on the way that is `END` or above (after an instruction)
abbrev pub LeadsToEnd : ℕ → List ℕ → ℕ → Type 0
LeadsToEnd s [] e = ⊥
LeadsToEnd s (b ∷ []) e = (e ≡ next_state s b) × (END ≤ e)
LeadsToEnd s (b ∷ c ∷ bs) e = (next_state s b < END) × LeadsToEnd (next_state s b) (c ∷ bs) e

-- The bytes are one whole instruction. The state `e` after it says whether it is an indirect transfer, where the
-- displacement of a direct one is, and which register it masks. An indirect transfer's register was masked directly before.
pub record Ends (m e : ℕ) (bytes : List ℕ) (i : Instr) : Type 0 where
  pub spells : Spells bytes i
  pub indirect : is_indirect i.flow ≡ (e == AFTER_PAIR)
  pub direct : IsTrue (is_direct i.flow) → ((e ≡ AFTER_SHORT) × (i.rel ≡ cast_signed w8 (slice_index bytes (length bytes - 1))))
      ⊎ ((e ≡ AFTER_NEAR) × (4 ≤ length bytes) × (i.rel ≡ cast_signed w32 (from_le_bytes w32 (drop (length bytes - 4) bytes))))
  pub masks : (r : ℕ) → masked_at e ≡ Some r → i.masks ≡ Some r
  pub paired : e ≡ AFTER_PAIR → (masked_at m ≡ Some i.reg) × (length bytes ≡ 2) × (i.reg ≡ slice_index bytes 1 % 8)

-- Bytes that lead from a state after an instruction to the next such state are one whole instruction. That state says
-- whether it is an indirect transfer, where the displacement of a direct one is, and which register it masks. An
-- indirect transfer directly follows its mask.
abbrev pub ReadsByStates : Type 0
ReadsByStates = (m e : ℕ) (bytes : List ℕ) → END ≤ m → m < STATES → All (λ b. b < 256) bytes → LeadsToEnd m bytes e → (i : Instr)
    × Ends m e bytes i

-- the next state is always below `STATES`
abbrev pub HasStates : Type 0
HasStates = (s b : ℕ) → next_state s b < STATES

-- a single byte is never an indirect transfer
abbrev pub NoneIsPaired : Type 0
NoneIsPaired = (m b : ℕ) → END ≤ m → m < STATES → b < 256 → next_state m b ≡ AFTER_PAIR → ⊥

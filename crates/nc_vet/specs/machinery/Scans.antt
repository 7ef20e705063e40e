-- What a run over bundles says about the code; machinery of the proofs, cited by no public contract.
use Rattle.std.specs.Prelude.{◌≡◌, ℕ, ◌+◌, ◌-◌, ◌%◌, ◌<◌, ◌≤◌, ◌⊎◌, List, ◌∷◌, ◌++◌, length, drop, get_or, slice_index, ◌==◌, ◌&&◌}
use Rattle.std.specs.Prelude.{nat_le, nat_lt, Bool, if◌then◌else◌, All, IsTrue}
use Rattle.std.specs.Int.{w8, w32, cast_signed, from_le_bytes}
use Rattle.nc_decode.specs.declared.instruction.Instr.{Instr}
use Rattle.nc_decode.specs.declared.instruction.Mark.{Mark}
use Rattle.nc_decode.specs.declared.instruction.Mark.TheVariants.{Unmarked, Plain, After}
use Rattle.nc_decode.specs.declared.automaton.TheConstants.{END, AFTER_SHORT, AFTER_NEAR, AFTER_PAIR}
use Rattle.nc_decode.specs.Automaton.{next_state}
use Rattle.nc_decode.specs.Transfers.{is_direct}
use Rattle.nc_vet.specs.Chunk.{Piece, place, marks_of}
use Rattle.nc_vet.specs.Faults.{IsSoundFront}
use Rattle.nc_vet.specs.machinery.Running.{state_before}

-- S has the state after each byte of the code; an instruction ends at the end of each bundle up to place `to`, and at `to`
pub record AreStates (code : List ℕ) (to : ℕ) (S : ℕ → ℕ) : Type 0 where
  pub next : (k : ℕ) → k < length code → S k ≡ next_state (state_before S k) (get_or code k 0)
  pub whole : (k : ℕ) → k < to → k % 32 ≡ 31 → END ≤ S k
  pub ended : (k : ℕ) → k + 1 ≡ to → END ≤ S k
  pub bytes : All (λ b. b < 256) code
  pub bundles : length code % 32 ≡ 0
  pub within : to ≤ length code

-- an indirect transfer begins at place k
abbrev pub second : (ℕ → ℕ) → ℕ → Bool
second S k = nat_lt (k % 32) 31 && (S (k + 1) == AFTER_PAIR)

-- the mark of place k, by the states
abbrev pub mark_by : (ℕ → ℕ) → List ℕ → ℕ → Mark
mark_by S code k = if second S k then After (get_or code (k + 1) 0 % 8) else (if nat_le END (state_before S k) then Plain else Unmarked)

-- the displacement of a direct transfer that ends directly before place `end` is its last byte or its last four bytes
abbrev pub IsDisplaced : (ℕ → ℕ) → List ℕ → ℕ → Instr → Type 0
IsDisplaced S code end i =
    ((S (end - 1) ≡ AFTER_SHORT) × (i.rel ≡ cast_signed w8 (slice_index code (end - 1))))
    ⊎ ((S (end - 1) ≡ AFTER_NEAR) × (4 ≤ end) × (i.rel ≡ cast_signed w32 (from_le_bytes w32 (drop (end - 4) code))))

-- the code before place `to` consists of sound instructions, with marks and displacements by the states
pub record IsScanned (code : List ℕ) (to : ℕ) (S : ℕ → ℕ) : Type 0 where
  pub pieces : List Piece
  pub rest : List ℕ
  pub reads : IsSoundFront code rest pieces
  pub here : place pieces ≡ to
  pub marks : (k : ℕ) → k < to → get_or (marks_of pieces) k Unmarked ≡ mark_by S code k
  pub direct : (b a : List Piece) (p : Piece) → pieces ≡ b ++ p ∷ a → IsTrue (is_direct p.instr.flow)
      → IsDisplaced S code (place b + length p.bytes) p.instr

-- if the states are those of the automaton, the code is scanned by them
abbrev pub Scans : Type 0
Scans = (code : List ℕ) (to : ℕ) (S : ℕ → ℕ) → AreStates code to S → IsScanned code to S

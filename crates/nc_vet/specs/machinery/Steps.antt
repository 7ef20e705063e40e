-- One step of reading, and one of judging targets; machinery of the proofs, cited by no public contract.
use Rattle.std.specs.Prelude.{◌≡◌, ◌≢◌, ℕ, ◌+◌, ◌-◌, ◌%◌, ◌<◌, ◌≤◌, ◌↔◌, true, List, ◌∷◌, ◌++◌, length, replicate, Option, Some, None}
use Rattle.std.specs.Prelude.{IsTrue, ⊤, ◌==◌, if◌then◌else◌}
use Rattle.nc_decode.specs.declared.instruction.Instr.{Instr}
use Rattle.nc_decode.specs.declared.instruction.Mark.{Mark}
use Rattle.nc_decode.specs.declared.instruction.Mark.TheVariants.{Unmarked}
use Rattle.nc_decode.specs.Spelling.{IsAtFront, IsProperFront}
use Rattle.nc_decode.specs.Transfers.{is_direct, is_indirect, target}
use Rattle.nc_vet.specs.declared.fault.VetFault.{VetFault}
use Rattle.nc_vet.specs.declared.fault.VetFault.TheVariants.{NotPermitted, Crosses, Bare, OutOfMemory}
use Rattle.nc_vet.specs.Chunk.{Piece, code_of, place, AreSound, FollowsMask, AreTargets, marks_of, IsTarget}
use Rattle.nc_vet.specs.Faults.{IsSoundFront, IsStuck}

-- the instruction at the front of the window is permitted there, if this register (or none) was just masked
pub record MayFollow (window : List ℕ) (masked : Option ℕ) (i : Instr) : Type 0 where
  pub front : IsAtFront window i
  pub some : 0 < i.len
  pub inside : i.len ≤ length window
  pub paired : is_indirect i.flow ≡ true → masked ≡ Some i.reg

-- the fault to report if no instruction at the front of the window is permitted there
abbrev pub NoneMayFollow : List ℕ → Option ℕ → ℕ → VetFault → Type 0
NoneMayFollow window masked address (Bare at) = (at ≡ address) × ((i : Instr) × IsAtFront window i × (is_indirect i.flow ≡ true)
    × (masked ≢ Some i.reg))
NoneMayFollow window masked address (Crosses at) = (at ≡ address) × IsProperFront window
NoneMayFollow window masked address (NotPermitted at) = (at ≡ address) × ((i : Instr) → ¬ IsAtFront window i) × ¬ IsProperFront window
NoneMayFollow window masked address _ = ⊥

-- the register masked at the place after an instruction: none at a bundle start
abbrev pub masked_after : Instr → ℕ → Option ℕ
masked_after i place = if place % 32 == 0 then None else i.masks

-- the state of reading: the code before place `at` has been read
pub record HasRead (code : List ℕ) (at : ℕ) (masked : Option ℕ) (marks : List Mark) : Type 0 where
  pub front : List Piece
  pub rest : List ℕ
  pub reads : IsSoundFront code rest front
  pub here : place front ≡ at
  pub masked_is : (r : ℕ) → (masked ≡ Some r) ↔ FollowsMask front r
  pub marks_are : marks ≡ marks_of front ++ replicate (length code - at) Unmarked

-- the code before place `at` consists of sound instructions
abbrev pub HasReadTo : List ℕ → ℕ → Option ℕ → Type 0
HasReadTo code at masked = (marks : List Mark) × HasRead code at masked marks

-- all of the code consists of sound instructions, and these are their marks
pub record HasReadAll (code : List ℕ) (marks : List Mark) : Type 0 where
  pub pieces : List Piece
  pub parts : code ≡ code_of pieces
  pub sound : AreSound pieces
  pub marks_are : marks ≡ marks_of pieces

-- the faults with which reading may end: that of the code at which it is stuck, or lack of memory
abbrev pub EndsReading : ℕ → List ℕ → VetFault → Type 0
EndsReading base code OutOfMemory = ⊤
EndsReading base code fault = IsStuck base code fault

-- the instruction that begins at place `at`, if any, isn't a direct transfer or has a permitted target
abbrev pub HasNoBadTargetAt : ℕ → ℕ → List Piece → ℕ → Type 0
HasNoBadTargetAt base limit pieces at = (before after : List Piece) (p : Piece) → pieces ≡ before ++ p ∷ after → place before ≡ at
    → IsTrue (is_direct p.instr.flow) → IsTarget base limit pieces (target p.instr (base + at))

-- a direct transfer with a bad target begins at a place
pub record HasBadTargetAt (base limit : ℕ) (pieces : List Piece) (at : ℕ) : Type 0 where
  pub before : List Piece
  pub after : List Piece
  pub piece : Piece
  pub parts : pieces ≡ before ++ piece ∷ after
  pub here : place before ≡ at
  pub direct : IsTrue (is_direct piece.instr.flow)
  pub bad : ¬ IsTarget base limit pieces (target piece.instr (base + at))

-- each instruction that begins before place `at` isn't a direct transfer or has a permitted target
pub record HasJudged (base limit : ℕ) (code : List ℕ) (marks : List Mark) (at : ℕ) : Type 0 where
  pub read : HasReadAll code marks
  pub good : (k : ℕ) → k < at → HasNoBadTargetAt base limit read.pieces k

-- each direct transfer has a good target
pub record HasJudgedAll (base limit : ℕ) (code : List ℕ) (marks : List Mark) : Type 0 where
  pub read : HasReadAll code marks
  pub targets : AreTargets base limit read.pieces

-- The fault of a chunk that isn't valid.
use Rattle.std.specs.Prelude.{◌≡◌, ◌≢◌, ℕ, ◌+◌, ◌-◌, ◌%◌, ◌<◌, ◌≤◌, List, [], ◌∷◌, ◌++◌, length, take, IsTrue}
use Rattle.nc_decode.specs.declared.instruction.Instr.{Instr}
use Rattle.nc_decode.specs.Bundles.{IsBundleStart, IsLawfulLimit}
use Rattle.nc_decode.specs.Spelling.{IsAtFront, IsProperFront}
use Rattle.nc_decode.specs.Transfers.{is_direct, target}
use Rattle.nc_vet.specs.declared.fault.VetFault.{VetFault}
use Rattle.nc_vet.specs.declared.fault.VetFault.TheVariants.{BadBase, BadLength, OutOfRange, NotPermitted, Crosses, Bare, BadTarget}
use Rattle.nc_vet.specs.declared.fault.VetFault.TheVariants.{OutOfMemory}
use Rattle.nc_vet.specs.Chunk.{Piece, code_of, place, AreSound, IsTarget, IsBase, IsLength, IsInRange}

-- the code begins with these sound instructions, and `rest` follows them
pub record IsSoundFront (code rest : List ℕ) (front : List Piece) : Type 0 where
  pub parts : code ≡ code_of front ++ rest
  pub sound : AreSound front

-- no other sound instructions at the beginning of the code have more bytes
abbrev pub IsLongest : List ℕ → List Piece → Type 0
IsLongest code front = (other : List Piece) (rest : List ℕ) → IsSoundFront code rest other → place other ≤ place front

-- the bytes of the rest of the code, which begins at place `at`, up to the end of the bundle
abbrev pub bundle_rest : ℕ → List ℕ → List ℕ
bundle_rest at rest = take (32 - at % 32) rest

-- The bytes after the sound instructions, up to the end of the bundle, begin with a whole instruction (`Bare`), are only the
-- beginning of one (`Crosses`), or neither (`NotPermitted`). If `front` is the longest, that whole instruction is an indirect
-- transfer without its mask. The fault has the address of the first of these bytes.
abbrev pub StandsAfter : ℕ → List Piece → List ℕ → VetFault → Type 0
StandsAfter base front rest (Bare at) = (at ≡ base + place front) × ((i : Instr) × IsAtFront (bundle_rest (place front) rest) i)
StandsAfter base front rest (Crosses at) = (at ≡ base + place front) × IsProperFront (bundle_rest (place front) rest)
StandsAfter base front rest (NotPermitted at) =
    (at ≡ base + place front) × ((i : Instr) → ¬ IsAtFront (bundle_rest (place front) rest) i)
    × ¬ IsProperFront (bundle_rest (place front) rest)
StandsAfter base front rest _ = ⊥

-- the longest sound beginning isn't all of the code, and the fault is about the bytes after it
pub record IsStuck (base : ℕ) (code : List ℕ) (fault : VetFault) : Type 0 where
  pub front : List Piece
  pub rest : List ℕ
  pub reads : IsSoundFront code rest front
  pub longest : IsLongest code front
  pub some : rest ≢ []
  pub why : StandsAfter base front rest fault

-- All of the code is sound. The direct transfer at the address doesn't go to a target, and each direct transfer before it
-- does.
pub record HasFirstBadTarget (base limit : ℕ) (code : List ℕ) (at : ℕ) : Type 0 where
  pub before : List Piece
  pub piece : Piece
  pub after : List Piece
  pub parts : code ≡ code_of (before ++ piece ∷ after)
  pub sound : AreSound (before ++ piece ∷ after)
  pub here : at ≡ base + place before
  pub direct : IsTrue (is_direct piece.instr.flow)
  pub bad : ¬ IsTarget base limit (before ++ piece ∷ after) (target piece.instr (base + place before))
  pub least : (b a : List Piece) (p : Piece) → before ≡ b ++ p ∷ a → IsTrue (is_direct p.instr.flow)
      → IsTarget base limit (before ++ piece ∷ after) (target p.instr (base + place b))

-- base, length and limit have no fault: the chunk consists of at least one whole bundle, at 00010000 or above and below
-- the guard, and the limit is lawful (Yee et al. 2009, C4)
pub record HasGoodSpan (base limit len : ℕ) : Type 0 where
  pub lawful : IsLawfulLimit limit
  pub start : IsBundleStart base
  pub whole : len % 32 ≡ 0
  pub some : 0 < len
  pub low : 0x10000 ≤ base
  pub high : base + len + 32 ≤ limit

-- the first fault of base, length and limit by themselves, in the order `BadBase`, `BadLength`, `OutOfRange`
abbrev pub HasSpanFault : ℕ → ℕ → ℕ → VetFault → Type 0
HasSpanFault base limit len BadBase = ¬ IsBase base
HasSpanFault base limit len BadLength = IsBase base × ¬ IsLength len
HasSpanFault base limit len OutOfRange = IsBase base × IsLength len × ¬ IsInRange base limit len
HasSpanFault base limit len _ = ⊥

-- The fault of a chunk. It is the first fault of base, length and limit, in the order `BadBase`, `BadLength`, `OutOfRange`;
-- else that of the bytes after the longest sound beginning, up to the end of the bundle: a whole instruction (`Bare`), only
-- the beginning of one (`Crosses`) or neither (`NotPermitted`); else the first direct transfer that doesn't go to a target
-- (`BadTarget`). Lack of memory says nothing about the code; it is reported only if base, length and limit have no fault.
abbrev pub HasFault : ℕ → ℕ → List ℕ → VetFault → Type 0
HasFault base limit code (NotPermitted at) = HasGoodSpan base limit (length code) × IsStuck base code (NotPermitted at)
HasFault base limit code (Crosses at) = HasGoodSpan base limit (length code) × IsStuck base code (Crosses at)
HasFault base limit code (Bare at) = HasGoodSpan base limit (length code) × IsStuck base code (Bare at)
HasFault base limit code (BadTarget at) = HasGoodSpan base limit (length code) × HasFirstBadTarget base limit code at
HasFault base limit code OutOfMemory = HasGoodSpan base limit (length code)
HasFault base limit code fault = HasSpanFault base limit (length code) fault

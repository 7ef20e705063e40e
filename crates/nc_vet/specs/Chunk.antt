-- Valid chunks: lists of consecutive whole instructions that obey four rules. A place is an offset from the chunk's base.
-- The base of a valid chunk is a bundle start, so a place has the same position in its bundle as its address.
use Rattle.std.specs.Prelude.{◌≡◌, ℕ, ◌+◌, ◌-◌, ◌/◌, ◌%◌, ◌<◌, ◌≤◌, ◌⊎◌, false, List, [], ◌∷◌, ◌++◌, length, replicate, Some, IsTrue}
use Rattle.std.specs.Prelude.{if◌then◌else◌}
use Rattle.std.specs.List.{flat_map}
use Rattle.nc_decode.specs.declared.instruction.Instr.{Instr}
use Rattle.nc_decode.specs.declared.instruction.Mark.{Mark}
use Rattle.nc_decode.specs.declared.instruction.Mark.TheVariants.{Unmarked, Plain, After}
use Rattle.nc_decode.specs.Bundles.{IsBundleStart, IsInOneBundle, IsLimitUpTo}
use Rattle.nc_decode.specs.Profiles.{Profile, profile}
use Rattle.nc_decode.specs.Spelling.{SpellsBy}
use Rattle.nc_decode.specs.Transfers.{is_direct, is_indirect, target}

-- one instruction of a chunk: its bytes, and their effect on control
pub record Piece : Type 0 where
  pub bytes : List ℕ
  pub instr : Instr

-- the bytes of some pieces, concatenated
abbrev pub code_of : List Piece → List ℕ
code_of pieces = flat_map (λ p. p.bytes) pieces

-- the place after some pieces, as an offset from the chunk's base: the number of their bytes
abbrev pub place : List Piece → ℕ
place before = length (code_of before)

-- the last of these pieces is the mask of the register, and begins in the same bundle as the place after it
pub record FollowsMask (before : List Piece) (reg : ℕ) : Type 0 where
  pub earlier : List Piece
  pub mask : Piece
  pub last : before ≡ earlier ++ mask ∷ []
  pub masks : mask.instr.masks ≡ Some reg
  pub together : place earlier / 32 ≡ place before / 32

-- each piece is a whole instruction of a profile
abbrev pub AreSpelledBy : Profile → List Piece → Type 0
AreSpelledBy v pieces = (before after : List Piece) (p : Piece) → pieces ≡ before ++ p ∷ after → SpellsBy v p.bytes p.instr

-- each piece is a whole instruction of the current profile
abbrev pub AreSpelled : List Piece → Type 0
AreSpelled pieces = AreSpelledBy profile pieces

-- the pieces are instructions of a profile; none crosses the end of a bundle, and each indirect transfer directly
-- follows the mask of its register in the same bundle (Yee et al. 2009, C3, C5 and C6)
pub record AreSoundBy (v : Profile) (pieces : List Piece) : Type 0 where
  pub spelled : AreSpelledBy v pieces
  pub inside : (before after : List Piece) (p : Piece) → pieces ≡ before ++ p ∷ after → IsInOneBundle (place before) (length p.bytes)
  pub paired : (before after : List Piece) (p : Piece) → pieces ≡ before ++ p ∷ after → IsTrue (is_indirect p.instr.flow)
      → FollowsMask before p.instr.reg

-- `AreSoundBy` the current profile
abbrev pub AreSound : List Piece → Type 0
AreSound pieces = AreSoundBy profile pieces

-- A piece that isn't an indirect transfer begins at the place. In sound code the indirect transfers are the second halves
-- of pairs.
pub record IsEntry (pieces : List Piece) (at : ℕ) : Type 0 where
  pub before : List Piece
  pub after : List Piece
  pub piece : Piece
  pub parts : pieces ≡ before ++ piece ∷ after
  pub here : place before ≡ at
  pub first : is_indirect piece.instr.flow ≡ false

-- the address is in the chunk, at the start of an instruction that isn't an indirect transfer (in sound code, not the
-- second half of a pair); or it is outside the chunk and a bundle start below the limit (Yee et al. 2009, C7; Ansel et al.
-- 2011, section 3)
abbrev pub IsTarget : ℕ → ℕ → List Piece → ℕ → Type 0
IsTarget base limit pieces to =
    ((at : ℕ) × (to ≡ base + at) × (at < place pieces) × IsEntry pieces at)
    ⊎ (((to < base) ⊎ (base + place pieces ≤ to)) × IsBundleStart to × (to < limit))

-- each direct transfer of the pieces goes to a target
abbrev pub AreTargets : ℕ → ℕ → List Piece → Type 0
AreTargets base limit pieces =
    (before after : List Piece) (p : Piece) → pieces ≡ before ++ p ∷ after → IsTrue (is_direct p.instr.flow)
    → IsTarget base limit pieces (target p.instr (base + place before))

-- the mark at the start of an instruction
abbrev pub mark_of : Instr → Mark
mark_of i = if is_indirect i.flow then After i.reg else Plain

-- the marks of an instruction, one for each byte
abbrev pub instr_marks : Instr → List Mark
instr_marks i = mark_of i ∷ replicate (i.len - 1) Unmarked

-- the marks of some instructions, concatenated
abbrev pub marks_of : List Piece → List Mark
marks_of pieces = flat_map (λ p. instr_marks p.instr) pieces

-- the base is a bundle start, and at least 00010000
abbrev pub IsBase : ℕ → Type 0
IsBase base = IsBundleStart base × (0x10000 ≤ base)

-- the length is a positive number of whole bundles
abbrev pub IsLength : ℕ → Type 0
IsLength len = (0 < len) × (len % 32 ≡ 0)

-- the limit is lawful in a profile, and the chunk ends at or before the guard, the last bundle below the limit
abbrev pub IsInRangeBy : Profile → ℕ → ℕ → ℕ → Type 0
IsInRangeBy v base limit len = IsLimitUpTo v.most_bundles limit × (base + len + 32 ≤ limit)

-- the limit is lawful, and the chunk ends at or before the guard, the last bundle below the limit (Yee et al. 2009, C1
-- and C4)
abbrev pub IsInRange : ℕ → ℕ → ℕ → Type 0
IsInRange base limit len = IsInRangeBy profile base limit len

-- a vetted chunk as contracts see it: base, limit, code and marks
pub record MarkedChunk : Type 0 where
  pub base : ℕ
  pub limit : ℕ
  pub code : List ℕ
  pub marks : List Mark

-- Base, length and range are good, and the code consists of sound instructions of a profile (`AreSoundBy`) whose direct
-- transfers go to targets. The mark is `After r` at the start of an indirect transfer on register r, `Plain` at the start
-- of any other instruction, and `Unmarked` elsewhere (Yee et al. 2009, C1 to C7).
pub record IsValidBy (v : Profile) (c : MarkedChunk) : Type 0 where
  pub base_is : IsBase c.base
  pub length_is : IsLength (length c.code)
  pub range : IsInRangeBy v c.base c.limit (length c.code)
  pub pieces : List Piece
  pub parts : c.code ≡ code_of pieces
  pub sound : AreSoundBy v pieces
  pub targets : AreTargets c.base c.limit pieces
  pub marks_are : c.marks ≡ marks_of pieces

-- the chunk is valid by the current profile
abbrev pub IsValid : MarkedChunk → Type 0
IsValid c = IsValidBy profile c

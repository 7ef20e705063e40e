-- Machinery of the proofs, cited by no public contract: the progress of a run.
use Rattle.std.specs.Prelude.{◌≡◌, ◌≢◌, ◌++◌, ◌⊎◌, ℕ, List, [], ◌∷◌, Option, Result, Ok, Err, take, ⊤}
use Rattle.std.specs.List.{flat_map}
use Rattle.std.specs.Io.KnownBytes.{Appends}
use Rattle.nc_lines.specs.declared.fault.ReplayFault.{ReplayFault}
use Rattle.nc_lines.specs.declared.fault.ReplayFault.TheVariants.{ReadFailed, WriteFailed, OutOfMemory, BadSize, BadSeats, BadWorkers}
use Rattle.nc_lines.specs.Lines.{kept_of, lines_of}
use Rattle.nc_lines.specs.Replying.{RepliesToLines, IsComplete, IsBegun, IsCutShort}

-- the replies that are held back, and how many bytes they may have at most
pub record HeldBytes : Type 0 where
  pub items : List ℕ
  pub most : ℕ

-- no byte is a line end, 0A
abbrev pub IsOpen : List ℕ → Type 0
IsOpen [] = ⊤
IsOpen (b ∷ bytes) = (b ≢ 10) × IsOpen bytes

-- no line contains a line end
abbrev pub AreOpen : List (List ℕ) → Type 0
AreOpen [] = ⊤
AreOpen (line ∷ lines) = IsOpen line × AreOpen lines

-- a line with its line end
abbrev pub ended : List ℕ → List ℕ
ended line = line ++ 10 ∷ []

-- a prefix of some bytes was written
abbrev pub WritesFront : Option (List ℕ) → Option (List ℕ) → List ℕ → Type 0
WritesFront before after bytes = (n : ℕ) × Appends before after (take n bytes)

-- a prefix of some bytes was written, and the others are held back
abbrev pub HoldsRest : Option (List ℕ) → Option (List ℕ) → List ℕ → List ℕ → Type 0
HoldsRest before after bytes held = (front : List ℕ) × Appends before after front × (bytes ≡ front ++ held)

-- why a run ends that lacks memory: what was held back was written, or a prefix of it was and the writer failed
abbrev pub EndsEarly : Option (List ℕ) → Option (List ℕ) → List ℕ → ReplayFault → Type 0
EndsEarly before after held OutOfMemory = Appends before after held
EndsEarly before after held WriteFailed = WritesFront before after held
EndsEarly before after held ReadFailed = ⊥
EndsEarly before after held BadSize = ⊥
EndsEarly before after held BadSeats = ⊥
EndsEarly before after held BadWorkers = ⊥

-- The result of replying to one line, given what was held back before it: its reply follows that, and some of it may have been
-- written. On a failure, what was held back before was written, or a prefix of it or of the reply after it.
abbrev pub RepliesToKept : {S T : Type 0} → (S → List ℕ → List ℕ → S → Type 0) → S → S → Option (List ℕ) → Option (List ℕ) → List ℕ → List ℕ
    → List ℕ → Result T ReplayFault → Type 0
RepliesToKept replies old new before after held left line (Ok _) =
    (reply : List ℕ) × replies old line reply new × HoldsRest before after (held ++ reply) left
RepliesToKept {S} replies old new before after held left line (Err WriteFailed) =
    WritesFront before after held ⊎ ((reply : List ℕ) × (mid : S) × replies old line reply mid × WritesFront before after (held ++ reply))
RepliesToKept replies old new before after held left line (Err OutOfMemory) = Appends before after held
RepliesToKept replies old new before after held left line (Err ReadFailed) = ⊥
RepliesToKept replies old new before after held left line (Err BadSize) = ⊥
RepliesToKept replies old new before after held left line (Err BadSeats) = ⊥
RepliesToKept replies old new before after held left line (Err BadWorkers) = ⊥

-- exactly the replies to these lines were made, in order, and written but for their last bytes, which are held back
pub record IsHeldBack {S : Type 0} (replies : S → List ℕ → List ℕ → S → Type 0) (old new : S) (before after : Option (List ℕ))
    (held : List ℕ) (lines : List (List ℕ)) : Type 0 where
  pub reply : List ℕ
  pub runs : RepliesToLines replies old lines (reply ++ held) new
  pub written : Appends before after reply

-- After these bytes, the lines that have ended have their replies, and the part of the last line that is to be kept is kept.
pub record KeepsUp {S : Type 0} (replies : S → List ℕ → List ℕ → S → Type 0) (start : S) (before : Option (List ℕ)) (bytes : List ℕ)
    (now : S) (after : Option (List ℕ)) (held kept : List ℕ) : Type 0 where
  pub lines : List (List ℕ)
  pub part : List ℕ
  pub split : bytes ≡ flat_map ended lines ++ part
  pub closed : AreOpen lines
  pub open_part : IsOpen part
  pub is_kept : kept ≡ kept_of part
  pub replied : IsHeldBack replies start now before after held lines

-- `KeepsUp` after a call that may fail. On a failure, `IsBegun` or `IsCutShort` holds whatever bytes would have followed.
abbrev pub Feeds : {S T : Type 0} → (S → List ℕ → List ℕ → S → Type 0) → S → Option (List ℕ) → List ℕ → S → Option (List ℕ) → List ℕ
    → List ℕ → Result T ReplayFault → Type 0
Feeds replies start before bytes now after held kept (Ok _) = KeepsUp replies start before bytes now after held kept
Feeds replies start before bytes now after held kept (Err WriteFailed) =
    (more : List ℕ) → IsBegun replies start before after (lines_of (bytes ++ more))
Feeds replies start before bytes now after held kept (Err OutOfMemory) =
    (more : List ℕ) → IsCutShort replies start before after (lines_of (bytes ++ more))
Feeds replies start before bytes now after held kept (Err ReadFailed) = ⊥
Feeds replies start before bytes now after held kept (Err BadSize) = ⊥
Feeds replies start before bytes now after held kept (Err BadSeats) = ⊥
Feeds replies start before bytes now after held kept (Err BadWorkers) = ⊥

-- `Feeds` after a call that takes a piece, whatever was read before it
abbrev pub FeedsPiece : {S T : Type 0} → (S → List ℕ → List ℕ → S → Type 0) → S → Option (List ℕ) → List ℕ → List ℕ → List ℕ → S
    → Option (List ℕ) → List ℕ → List ℕ → Result T ReplayFault → Type 0
FeedsPiece {S} replies old after held kept piece new later left part_left result =
    (start : S) (before : Option (List ℕ)) (bytes : List ℕ) → KeepsUp replies start before bytes old after held kept
    → Feeds replies start before (bytes ++ piece) new later left part_left result

-- `Feeds` after a call that takes some of the bytes and returns their number.
abbrev pub FeedsPart : {S : Type 0} → (S → List ℕ → List ℕ → S → Type 0) → S → Option (List ℕ) → List ℕ → List ℕ → S → Option (List ℕ)
    → List ℕ → List ℕ → Result ℕ ReplayFault → Type 0
FeedsPart replies start before bytes rest now after held kept (Ok count) =
    KeepsUp replies start before (bytes ++ take count rest) now after held kept
FeedsPart replies start before bytes rest now after held kept (Err fault) =
    Feeds {T = Unit {0}} replies start before (bytes ++ rest) now after held kept (Err fault)

-- After the last byte all lines have their replies; on a failure `IsBegun` or `IsCutShort` holds.
abbrev pub Finishes : {S T : Type 0} → (S → List ℕ → List ℕ → S → Type 0) → S → Option (List ℕ) → List ℕ → S → Option (List ℕ)
    → Result T ReplayFault → Type 0
Finishes replies start before bytes now after (Ok _) = IsComplete replies start now before after (lines_of bytes)
Finishes replies start before bytes now after (Err WriteFailed) = IsBegun replies start before after (lines_of bytes)
Finishes replies start before bytes now after (Err OutOfMemory) = IsCutShort replies start before after (lines_of bytes)
Finishes replies start before bytes now after (Err ReadFailed) = ⊥
Finishes replies start before bytes now after (Err BadSize) = ⊥
Finishes replies start before bytes now after (Err BadSeats) = ⊥
Finishes replies start before bytes now after (Err BadWorkers) = ⊥

-- `Finishes` after a call that takes the last line, whatever was read before it
abbrev pub FinishesLine : {S T : Type 0} → (S → List ℕ → List ℕ → S → Type 0) → S → Option (List ℕ) → List ℕ → List ℕ → S
    → Option (List ℕ) → Result T ReplayFault → Type 0
FinishesLine {S} replies old after held line new later result =
    (start : S) (before : Option (List ℕ)) (bytes : List ℕ) → KeepsUp replies start before bytes old after held line
    → Finishes replies start before bytes new later result

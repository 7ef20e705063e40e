-- Lines of an input: each ends at a byte 0A or at the end of the input.
use Rattle.std.specs.Prelude.{◌+◌, ◌==◌, ℕ, Bool, List, [], ◌∷◌, if◌then◌else◌, nat_lt, length, take}
use Rattle.std.specs.List.{slice_split}

-- a byte added at the front of the first line, or as a line of its own if there is none
abbrev pub onto_line : ℕ → List (List ℕ) → List (List ℕ)
onto_line b [] = (b ∷ []) ∷ []
onto_line b (line ∷ lines) = (b ∷ line) ∷ lines

-- the lines of an input; a line ends at a byte 0A or at the end of the input; a final 0A begins no further line
abbrev pub lines_of : List ℕ → List (List ℕ)
lines_of [] = []
lines_of (b ∷ bytes) = if b == 10 then [] ∷ lines_of bytes else onto_line b (lines_of bytes)

-- a byte added at the front of the first line, if there is one
abbrev pub onto_ended : ℕ → List (List ℕ) → List (List ℕ)
onto_ended b [] = []
onto_ended b (line ∷ lines) = (b ∷ line) ∷ lines

-- the lines whose 0A is among the bytes
abbrev pub ended_lines : List ℕ → List (List ℕ)
ended_lines [] = []
ended_lines (b ∷ bytes) = if b == 10 then [] ∷ ended_lines bytes else onto_ended b (ended_lines bytes)

-- the most bytes that a line may have, not counting its 0A; the reply to a longer line is that to a bad one
abbrev pub line_limit : ℕ
line_limit = 1048576

-- the line has more bytes than the limit
abbrev pub is_long : List ℕ → Bool
is_long line = nat_lt line_limit (length line)

-- the part of a line that is kept while it is read: at most its first 1048577 bytes, one more than a line may have
abbrev pub kept_of : List ℕ → List ℕ
kept_of line = take (line_limit + 1) line

-- the words of a line, separated by single spaces; two adjacent spaces have an empty word between them, which denotes nothing
abbrev pub words_in : List ℕ → List (List ℕ)
words_in line = slice_split (λ b. b == 32) line

-- `bad line` and a line end
abbrev pub bad_line : List ℕ
bad_line = 98 ∷ 97 ∷ 100 ∷ 32 ∷ 108 ∷ 105 ∷ 110 ∷ 101 ∷ 10 ∷ []

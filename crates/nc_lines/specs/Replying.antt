-- Replies to lines, one after another, and how much of them was written. Everything here holds for any relation
-- `replies old line reply new`: from the state `old` this may be the reply to the line, and `new` is the state after it.
use Rattle.std.specs.Prelude.{◌≡◌, ◌≢◌, ◌++◌, ℕ, List, [], ◌∷◌, Option, Result, OnOk, IfErr, IfSome, IsErrOf}
use Rattle.std.specs.Io.KnownBytes.{Appends, Consumes, IsAtEnd}
use Rattle.nc_lines.specs.declared.fault.ReplayFault.{ReplayFault}
use Rattle.nc_lines.specs.declared.fault.ReplayFault.TheVariants.{ReadFailed, WriteFailed, OutOfMemory, BadSize, BadSeats, BadWorkers}
use Rattle.nc_lines.specs.Lines.{lines_of, ended_lines}

-- `reply` is the concatenation of replies to these lines, in order, each from the state that the one before led to.
abbrev pub RepliesToLines : {S : Type 0} → (S → List ℕ → List ℕ → S → Type 0) → S → List (List ℕ) → List ℕ → S → Type 0
RepliesToLines replies old [] reply new = (reply ≡ []) × (new ≡ old)
RepliesToLines {S} replies old (line ∷ lines) reply new =
    (mid : S) × (text : List ℕ) × (rest : List ℕ) × replies old line text mid × (reply ≡ text ++ rest)
    × RepliesToLines replies mid lines rest new

-- exactly the replies to these lines were written, in order
pub record IsComplete {S : Type 0} (replies : S → List ℕ → List ℕ → S → Type 0) (old new : S) (before after : Option (List ℕ))
    (lines : List (List ℕ)) : Type 0 where
  pub reply : List ℕ
  pub runs : RepliesToLines replies old lines reply new
  pub written : Appends before after reply

-- all or a prefix of the replies to some lines, from the first one on, were written
pub record IsBegun {S : Type 0} (replies : S → List ℕ → List ℕ → S → Type 0) (old : S) (before after : Option (List ℕ))
    (lines : List (List ℕ)) : Type 0 where
  pub first : List (List ℕ)
  pub others : List (List ℕ)
  pub split : lines ≡ first ++ others
  pub reply : List ℕ
  pub missing : List ℕ
  pub new : S
  pub runs : RepliesToLines replies old first (reply ++ missing) new
  pub written : Appends before after reply

-- exactly the replies to the lines before the one that failed were written
pub record IsCutShort {S : Type 0} (replies : S → List ℕ → List ℕ → S → Type 0) (old : S) (before after : Option (List ℕ))
    (lines : List (List ℕ)) : Type 0 where
  pub first : List (List ℕ)
  pub failed : List ℕ
  pub others : List (List ℕ)
  pub split : lines ≡ first ++ (failed ∷ others)
  pub new : S
  pub replied : IsComplete replies old new before after first

-- The effect of a run that replies to the lines of an input, by its result. From the state `old` it led to `new`. The reader had
-- `remaining` to read before it and `left` after it, and the writer had `before` and `after`.
pub record HasRepliedToAll {S T : Type 0} (replies : S → List ℕ → List ℕ → S → Type 0) (old new : S)
    (remaining left before after : Option (List ℕ)) (result : Result T ReplayFault) : Type 0 where
  -- The whole input was read, and exactly the replies to its lines were written.
  pub ok : OnOk result (IfSome remaining (λ input. IsComplete replies old new before after (lines_of input)))
  pub read : OnOk result (IsAtEnd left)
  -- A prefix of the replies was written.
  pub write_failed : IsErrOf result WriteFailed → IfSome remaining (λ input. IsBegun replies old before after (lines_of input))
  -- Exactly the replies to the lines whose line end was read were written.
  pub read_failed : IsErrOf result ReadFailed
      → (front : List ℕ) × Consumes remaining left front × IsComplete replies old new before after (ended_lines front)
  -- Exactly the replies to the lines before the one that failed were written.
  pub out_of_memory : IsErrOf result OutOfMemory → IfSome remaining (λ input. IsCutShort replies old before after (lines_of input))
  -- No other fault is returned.
  pub faults : IfErr result (λ fault. (fault ≢ BadSize) × (fault ≢ BadSeats) × (fault ≢ BadWorkers))

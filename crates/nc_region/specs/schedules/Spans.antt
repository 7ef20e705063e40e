-- Retired spans, and when no thread can enter one except at its bundle starts.
use Rattle.std.specs.Prelude.{◌≡◌, ◌≢◌, ℕ, ◌+◌, ◌%◌, ◌<◌, ◌≤◌, List}
use Rattle.nc_decode.specs.declared.instruction.Mark.{Mark}
use Rattle.nc_text.specs.Places.{byte_at}
use Rattle.nc_text.specs.Machine.{State, Step}
use Rattle.nc_text.specs.Marks.{IsMarked}

-- a retired span, with the generation that is its stamp
pub record RetiredSpan : Type 0 where
  pub base : ℕ
  pub length : ℕ
  pub stamp : ℕ

-- the place lies in the span
abbrev pub IsInSpan : RetiredSpan → ℕ → Type 0
IsInSpan span at = (span.base ≤ at) × (at < span.base + span.length)

-- the place lies in the span and isn't a bundle start
abbrev pub IsWithin : RetiredSpan → ℕ → Type 0
IsWithin span at = IsInSpan span at × (at % 32 ≢ 0)

-- A span is quiet if all its bytes are F4, and no marked state outside it has a step into it, except to a bundle start.
pub record IsQuiet (text : List ℕ) (marks : List Mark) (span : RetiredSpan) : Type 0 where
  pub stops : (at : ℕ) → IsInSpan span at → byte_at text at ≡ 0xF4
  pub unreached : (now next : State) → IsMarked marks now → ¬ IsInSpan span now.place → Step text now next → ¬ IsWithin span next.place

-- A span is shut in a text if each of its marked places holds F4, and no marked state outside it has a step into it,
-- except to a bundle start. Unmarked places may hold any byte. A quiet span is shut.
pub record IsShut (text : List ℕ) (marks : List Mark) (span : RetiredSpan) : Type 0 where
  pub stops : (now : State) → IsMarked marks now → IsInSpan span now.place → byte_at text now.place ≡ 0xF4
  pub unreached : (now next : State) → IsMarked marks now → ¬ IsInSpan span now.place → Step text now next → ¬ IsWithin span next.place

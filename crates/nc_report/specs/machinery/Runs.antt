-- Machinery of the proofs, cited by no public contract: how the transfers out of a chunk are collected and counted.
use Rattle.std.specs.Prelude.{◌≡◌, ◌≢◌, ℕ, ◌<◌, ◌≤◌, List, ◌++◌, length, take, replicate, slice_index}
use Rattle.std.specs.List.{flat_map}
use Rattle.std.specs.List.Sorted.{IsNonDecreasing}
use Rattle.nc_vet.specs.Chunk.{Piece, code_of, place, AreSpelled}
use Rattle.nc_output.specs.declared.detail.Format.{Format}
use Rattle.nc_report.specs.Outside.{OutsideRow, AscendFrom, all_sent, row_text}

-- the instructions before a place have been read, and their targets outside are known
pub record KnowsSent (base len : ℕ) (pieces : List Piece) (at : ℕ) (sent : List ℕ) : Type 0 where
  pub before : List Piece
  pub after : List Piece
  pub parts : pieces ≡ before ++ after
  pub here : place before ≡ at
  pub known : sent ≡ all_sent base len base before

-- whatever instructions the code has, those before a place have been read, and their targets outside are known
abbrev pub HasReadCode : ℕ → List ℕ → ℕ → List ℕ → Type 0
HasReadCode base code at sent =
    (pieces : List Piece) → AreSpelled pieces → code ≡ code_of pieces → KnowsSent base (length code) pieces at sent

-- whatever instructions the code has, these are all their targets outside
abbrev pub IsSent : ℕ → List ℕ → List ℕ → Type 0
IsSent base code sent =
    (pieces : List Piece) → AreSpelled pieces → code ≡ code_of pieces → sent ≡ all_sent base (length code) base pieces

-- the first `count` numbers are equal, and the next one, if there is one, differs
pub record BeginsWithRun (numbers : List ℕ) (count : ℕ) : Type 0 where
  pub some : 0 < count
  pub within : count ≤ length numbers
  pub same : take count numbers ≡ replicate count (slice_index numbers 0)
  pub ends : count < length numbers → slice_index numbers count ≢ slice_index numbers 0

-- the numbers that these rows count
abbrev pub numbers_of : List OutsideRow → List ℕ
numbers_of rows = flat_map (λ row. replicate row.times row.to) rows

-- a prefix of ascending numbers was written as rows, and the rest is left
pub record HasCounted (format : Format) (numbers : List ℕ) (old new rest : List ℕ) : Type 0 where
  pub rows : List OutsideRow
  pub least : ℕ
  pub split : numbers ≡ numbers_of rows ++ rest
  pub ascend : (more : List OutsideRow) → AscendFrom least more → AscendFrom 0 (rows ++ more)
  pub above : (k : ℕ) → k < length rest → least ≤ slice_index rest k
  pub sorted : IsNonDecreasing rest
  pub added : new ≡ old ++ flat_map (row_text format) rows

-- ascending numbers were written as rows
pub record AddsCounts (format : Format) (numbers old new : List ℕ) : Type 0 where
  pub rows : List OutsideRow
  pub ascend : AscendFrom 0 rows
  pub all : numbers ≡ numbers_of rows
  pub added : new ≡ old ++ flat_map (row_text format) rows

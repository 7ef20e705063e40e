-- Machinery of the proofs, cited by no public contract: where a fault is, and what is known of an accepted chunk.
use Rattle.std.specs.Prelude.{◌≡◌, ℕ, ◌+◌, ◌-◌, ◌%◌, ◌<◌, ◌≤◌, ◌^◌, List, ◌++◌, length, ⊤, Option, MatchOption}
use Rattle.std.specs.List.{flat_map}
use Rattle.nc_vet.specs.Chunk.{Piece, code_of, place, AreSpelled, MarkedChunk, IsValid}
use Rattle.nc_output.specs.declared.detail.Detail.{Detail}
use Rattle.nc_output.specs.declared.detail.Format.{Format}
use Rattle.nc_output.specs.declared.detail.Style.{Style}
use Rattle.nc_report.specs.Outside.{OutsideRow, Counts, all_sent, row_text, rows_text, AreCalls}
use Rattle.nc_report.specs.Report.{accepted_text}

-- the address is that of a byte of the code, which is whole bundles
pub record IsPlaceAt (base : ℕ) (code : List ℕ) (at : ℕ) : Type 0 where
  pub low : base ≤ at
  pub within : at - base < length code
  pub whole : length code % 32 ≡ 0
  pub span : base + length code < 2 ^ 32

-- the address, if there is one, is that of a byte of the code, which is whole bundles
abbrev pub IsPlaceIfAny : ℕ → List ℕ → Option ℕ → Type 0
IsPlaceIfAny base code at = MatchOption at ⊤ (λ at. IsPlaceAt base code at)

-- rows were added that count the transfers of a chunk with these instructions to addresses outside it
pub record AddsRows (format : Format) (old new : List ℕ) (base : ℕ) (pieces : List Piece) : Type 0 where
  pub rows : List OutsideRow
  pub counts : Counts (all_sent base (place pieces) base pieces) rows
  pub added : new ≡ old ++ flat_map (row_text format) rows

-- what is asked for of these rows was added
pub record AddsCalls (detail : Detail) (format : Format) (old new : List ℕ) (base : ℕ) (pieces : List Piece) : Type 0 where
  pub rows : List OutsideRow
  pub calls : AreCalls detail base pieces rows
  pub added : new ≡ old ++ rows_text detail format rows

-- the code has `count` instructions
pub record HasInstructions (code : List ℕ) (count : ℕ) : Type 0 where
  pub pieces : List Piece
  pub spelled : AreSpelled pieces
  pub parts : code ≡ code_of pieces
  pub counted : count ≡ length pieces

-- the report on a valid chunk was added
pub record AddsAccepted (old new : List ℕ) (style : Style) (name : List ℕ) (chunk : MarkedChunk) : Type 0 where
  pub valid : IsValid chunk
  pub count : ℕ
  pub has : HasInstructions chunk.code count
  pub rows : List OutsideRow
  pub calls : AreCalls style.detail chunk.base has.pieces rows
  pub added : new ≡ old ++ accepted_text style.detail style.format chunk.base name (length chunk.code) count rows

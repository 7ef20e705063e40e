-- The addresses outside a chunk that its direct transfers target, and the number of transfers to each.
use Rattle.std.specs.Prelude.{◌≡◌, ℕ, ◌+◌, ◌<◌, ◌≤◌, Bool, List, [], ◌∷◌, ◌++◌, ◌==◌, ◌&&◌, ◌||◌, if◌then◌else◌, nat_le, nat_lt}
use Rattle.std.specs.Prelude.{length, replicate, codes, ⊤}
use Rattle.std.specs.List.{flat_map}
use Rattle.std.specs.List.Sorted.{IsPermutation}
use Rattle.std.specs.Fmt.{decimal}
use Rattle.nc_decode.specs.declared.instruction.Instr.{Instr}
use Rattle.nc_decode.specs.Transfers.{is_direct, target}
use Rattle.nc_vet.specs.Chunk.{Piece, place}
use Rattle.nc_output.specs.Verdicts.{address_digits}
use Rattle.nc_output.specs.declared.detail.Detail.{Detail}
use Rattle.nc_output.specs.declared.detail.Detail.TheVariants.{Calls}
use Rattle.nc_output.specs.declared.detail.Format.{Format}
use Rattle.nc_output.specs.declared.detail.Format.TheVariants.{Text, Json}
use Rattle.nc_output.specs.Shown.{detail_line}
use Rattle.nc_output.specs.Strings.{string_of}
use Rattle.nc_report.specs.Objects.{member, array_of}

-- the address isn't one of the `len` addresses from the base on
abbrev pub is_outside : ℕ → ℕ → ℕ → Bool
is_outside base len to = nat_lt to base || nat_le (base + len) to

-- the target of the instruction at this address, if it is a direct transfer to an address outside
abbrev pub sent_outside : ℕ → ℕ → Instr → ℕ → List ℕ
sent_outside base len i at = if is_direct i.flow && is_outside base len (target i at) then target i at ∷ [] else []

-- the addresses outside that these instructions target, in order; the first instruction is at this address
abbrev pub all_sent : ℕ → ℕ → ℕ → List Piece → List ℕ
all_sent base len at [] = []
all_sent base len at (p ∷ pieces) = sent_outside base len p.instr at ++ all_sent base len (at + length p.bytes) pieces

-- an address outside, and the number of transfers to it
pub record OutsideRow : Type 0 where
  pub to : ℕ
  pub times : ℕ

-- each row has at least one transfer, and the addresses ascend strictly, from `least` on
abbrev pub AscendFrom : ℕ → List OutsideRow → Type 0
AscendFrom least [] = ⊤
AscendFrom least (row ∷ rows) = (0 < row.times) × (least ≤ row.to) × AscendFrom (row.to + 1) rows

-- The rows count these addresses: each distinct address has one row, with the number of its occurrences.
pub record Counts (sent : List ℕ) (rows : List OutsideRow) : Type 0 where
  pub ascend : AscendFrom 0 rows
  pub same : IsPermutation sent (flat_map (λ row. replicate row.times row.to) rows)

-- a row as words, and as an object
abbrev pub row_words : OutsideRow → List ℕ
row_words row =
    codes "-> " ++ (address_digits row.to ++ (codes ": " ++ (decimal row.times
    ++ (if row.times == 1 then codes " transfer" else codes " transfers"))))

abbrev pub row_object : OutsideRow → List ℕ
row_object row =
    codes "{\"to\":" ++ (string_of (address_digits row.to) ++ (codes ",\"transfers\":" ++ (decimal row.times ++ codes "}")))

-- a row as a line, or as an element of an array
abbrev pub row_text : Format → OutsideRow → List ℕ
row_text Text row = detail_line (row_words row)
row_text Json row = codes "," ++ row_object row

-- the rows as lines, or as a member that is an array; nothing if they aren't asked for
abbrev pub rows_text : Detail → Format → List OutsideRow → List ℕ
rows_text Calls Text rows = flat_map (row_text Text) rows
rows_text Calls Json rows = member (codes "calls") (array_of (flat_map (row_text Json) rows))
rows_text _ format rows = []

-- the rows, if they are asked for, count the transfers of a chunk with these instructions to addresses outside it
abbrev pub AreCalls : Detail → ℕ → List Piece → List OutsideRow → Type 0
AreCalls Calls base pieces rows = Counts (all_sent base (place pieces) base pieces) rows
AreCalls _ base pieces rows = rows ≡ []

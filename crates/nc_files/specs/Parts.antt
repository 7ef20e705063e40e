-- The parts of a file that are judged.
use Rattle.std.specs.Prelude.{◌≡◌, ℕ, ◌+◌, Bool, ◌&&◌, nat_le, nat_lt, List, [], ◌++◌, map, filter, codes}
use Rattle.nc_elf.specs.declared.listing.Segment.{Segment}
use Rattle.nc_elf.specs.declared.symbols.Symbol.{Symbol}
use Rattle.nc_elf.specs.Segments.{segments_of}
use Rattle.nc_elf.specs.Symbols.{AreCodeSymbols, name_of}
use Rattle.nc_output.specs.Verdicts.{address_digits}
use Rattle.nc_output.specs.declared.detail.Detail.{Detail}
use Rattle.nc_output.specs.declared.detail.Detail.TheVariants.{Brief}
use Rattle.nc_output.specs.declared.detail.Format.{Format}
use Rattle.nc_output.specs.declared.detail.Format.TheVariants.{Text, Json}
use Rattle.nc_report.specs.declared.labels.Label.{Label}
use Rattle.nc_files.specs.declared.parts.Part.{Part}

-- the code of a part
abbrev pub code_in : Part → List ℕ
code_in part = part.source.code.items

-- the addresses of the parts' first bytes; `codes_in` has their code
abbrev pub bases_in : List Part → List ℕ
bases_in parts = map (λ part. part.base) parts

abbrev pub codes_in : List Part → List (List ℕ)
codes_in parts = map code_in parts

-- the names of the parts' reports
abbrev pub names_in : List Part → List (List ℕ)
names_in parts = map (λ part. part.source.name.items) parts

-- the name of the report on a segment: that of its file, and in text the segment's address too, for which an object has a member
abbrev pub part_name : Format → List ℕ → ℕ → List ℕ
part_name Text name address = name ++ (codes " (" ++ (address_digits address ++ codes ")"))
part_name Json name address = name

-- a label's address and name
abbrev pub named : Label → ℕ × List ℕ
named label = (label.address, label.name.items)

-- a symbol's address and name
abbrev pub name_in : List ℕ → Symbol → ℕ × List ℕ
name_in file symbol = (symbol.address, name_of file symbol)

-- the symbol's address is that of a byte of the segment
abbrev pub is_in : Segment → Symbol → Bool
is_in segment symbol = nat_le segment.address symbol.address && nat_lt symbol.address (segment.address + segment.len)

-- the addresses and names of those symbols that are in a segment, in their order
abbrev pub labels_of : List ℕ → List Symbol → Segment → List (ℕ × List ℕ)
labels_of file symbols segment = map (name_in file) (filter (is_in segment) symbols)

-- the addresses and names of the labels of each part
abbrev pub labels_in : List Part → List (List (ℕ × List ℕ))
labels_in parts = map (λ part. map named part.source.labels) parts

-- these symbols name faults: the file's symbols of code, or none if only verdicts are written
abbrev pub NamesBy : Detail → List ℕ → List Symbol → Type 0
NamesBy Brief file symbols = symbols ≡ []
NamesBy _ file symbols = AreCodeSymbols file symbols

-- the labels of each part are the symbols in its segment, with their addresses and names; there are none if only verdicts are
-- written
pub record AreLabelled (detail : Detail) (file : List ℕ) (parts : List Part) : Type 0 where
  pub symbols : List Symbol
  pub names : NamesBy detail file symbols
  pub labels : labels_in parts ≡ map (labels_of file symbols) (segments_of file)

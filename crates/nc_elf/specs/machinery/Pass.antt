-- What a pass over program headers, or over the entries of a symbol table, knows after the first i of them.
use Rattle.std.specs.Prelude.{ℕ, ◌≤◌, ◌^◌, ◌↔◌, List, map, filter}
use Rattle.std.specs.List.{range_with_len}
use Rattle.nc_elf.specs.declared.loaded.NcSegment.{NcSegment}
use Rattle.nc_elf.specs.declared.listing.Segment.{Segment}
use Rattle.nc_elf.specs.declared.sections.SymbolSections.{SymbolSections}
use Rattle.nc_elf.specs.declared.symbols.Symbol.{Symbol}
use Rattle.nc_elf.specs.Segments.{program_header, is_code, segment_of, is_present, loaded_of, EndBy}
use Rattle.nc_elf.specs.Symbols.{symbol_entry, is_listed, symbol_of}

-- the lowest address such that the loaded segments of the first i program headers end at it or before
pub record IsFloor (file : List ℕ) (i : ℕ) (floor : ℕ) : Type 0 where
  pub least : (at : ℕ) → EndBy file i at ↔ (floor ≤ at)
  pub bound : floor ≤ 2 ^ 32

-- the segments of code that the first i program headers name
abbrev pub first_segments : List ℕ → ℕ → List Segment
first_segments file i = map segment_of (filter is_code (map (λ j. program_header file j) (range_with_len 0 i)))

-- the loaded segments that the first i program headers name
abbrev pub first_loaded : List ℕ → ℕ → List NcSegment
first_loaded file i = map loaded_of (filter is_present (map (λ j. program_header file j) (range_with_len 0 i)))

-- the symbols of the first i entries that are listed
abbrev pub first_symbols : List ℕ → SymbolSections → ℕ → List Symbol
first_symbols file t i =
    map (symbol_of file t.names) (filter (is_listed file t.names) (map (λ j. symbol_entry file t.symbols j) (range_with_len 0 i)))

-- The section headers of an ELF file, and the two sections that hold its symbols and their names.
use Rattle.std.specs.Prelude.{◌≡◌, ℕ, ◌+◌, ◌*◌, ◌<◌, ◌≤◌, ◌==◌, Bool, List, Some, length, map, find}
use Rattle.std.specs.List.{range_with_len}
use Rattle.nc_elf.specs.declared.sections.SectionHeader.{SectionHeader}
use Rattle.nc_elf.specs.declared.sections.SymbolSections.{SymbolSections}
use Rattle.nc_elf.specs.Header.{u16_at, u32_at, IsElf32}

-- the offset of the first section header
abbrev pub e_shoff : List ℕ → ℕ
e_shoff file = u32_at file 32

-- the length of a section header
abbrev pub e_shentsize : List ℕ → ℕ
e_shentsize file = u16_at file 46

-- the number of section headers
abbrev pub e_shnum : List ℕ → ℕ
e_shnum file = u16_at file 48

-- the file is a 32-bit little-endian one, and its section headers are in it, each of 40 bytes
pub record HasSections (file : List ℕ) : Type 0 where
  pub elf32 : IsElf32 file
  pub size : e_shentsize file ≡ 40
  pub inside : e_shoff file + 40 * e_shnum file ≤ length file

-- the i-th section header, counted from 0
abbrev pub section_header : List ℕ → ℕ → SectionHeader
section_header file i =
    record {
      kind = u32_at file (e_shoff file + 40 * i + 4);
      offset = u32_at file (e_shoff file + 40 * i + 16);
      len = u32_at file (e_shoff file + 40 * i + 20);
      link = u32_at file (e_shoff file + 40 * i + 24);
      entry_len = u32_at file (e_shoff file + 40 * i + 36);
    }

-- all section headers, in their order
abbrev pub section_headers : List ℕ → List SectionHeader
section_headers file = map (λ i. section_header file i) (range_with_len 0 (e_shnum file))

-- the section is a symbol table (SHT_SYMTAB)
abbrev pub is_symbol_table : SectionHeader → Bool
is_symbol_table h = h.kind == 2

-- the section's bytes are in the file
abbrev pub IsSectionInFile : List ℕ → SectionHeader → Type 0
IsSectionInFile file h = h.offset + h.len ≤ length file

-- The first symbol table (SHT_SYMTAB), with entries of 16 bytes, and the string table (SHT_STRTAB) to which it links. Both
-- are in the file, a 32-bit little-endian one with its section headers in it, each of 40 bytes.
pub record AreSymbolSections (file : List ℕ) (t : SymbolSections) : Type 0 where
  pub sections : HasSections file
  pub symbols : find is_symbol_table (section_headers file) ≡ Some t.symbols
  pub size : t.symbols.entry_len ≡ 16
  pub symbols_inside : IsSectionInFile file t.symbols
  pub linked : t.symbols.link < e_shnum file
  pub names : t.names ≡ section_header file t.symbols.link
  pub kind : t.names.kind ≡ 3
  pub names_inside : IsSectionInFile file t.names

-- the file has a symbol table and its string table (`AreSymbolSections`)
abbrev pub HasSymbols : List ℕ → Type 0
HasSymbols file = (t : SymbolSections) × AreSymbolSections file t

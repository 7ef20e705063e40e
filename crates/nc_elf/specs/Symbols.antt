-- The symbols of code in a symbol table.
use Rattle.std.specs.Prelude.{◌≡◌, ℕ, ◌+◌, ◌*◌, ◌/◌, ◌<◌, ◌≤◌, ◌==◌, ◌&&◌, ◌||◌, not, Bool, List, [], ◌∷◌, length, map, filter}
use Rattle.std.specs.Prelude.{take, drop, bit_and, nat_eq, nat_lt, nat_le, slice_index, slice_range}
use Rattle.std.specs.List.{range_with_len, prefix_len, starts_with}
use Rattle.std.specs.List.Sorted.{IsPermutation, IsNonDecreasingBy, IsStableByKey}
use Rattle.std.specs.Ordering.{nat_cmp}
use Rattle.nc_elf.specs.declared.sections.SectionHeader.{SectionHeader}
use Rattle.nc_elf.specs.declared.sections.SymbolSections.{SymbolSections}
use Rattle.nc_elf.specs.declared.entries.SymbolEntry.{SymbolEntry}
use Rattle.nc_elf.specs.declared.symbols.Symbol.{Symbol}
use Rattle.nc_elf.specs.Header.{u16_at, u32_at}
use Rattle.nc_elf.specs.Sections.{AreSymbolSections, HasSymbols}

-- the i-th entry of a symbol table, counted from 0
abbrev pub symbol_entry : List ℕ → SectionHeader → ℕ → SymbolEntry
symbol_entry file table i =
    record {
      name = u32_at file (table.offset + 16 * i);
      address = u32_at file (table.offset + 16 * i + 4);
      info = slice_index file (table.offset + 16 * i + 12);
      section = u16_at file (table.offset + 16 * i + 14);
    }

-- all whole entries of a symbol table, in their order
abbrev pub symbol_entries : List ℕ → SectionHeader → List SymbolEntry
symbol_entries file table = map (λ i. symbol_entry file table i) (range_with_len 0 (table.len / 16))

-- the symbol's type is none or a function (STT_NOTYPE, STT_FUNC)
abbrev pub is_code_type : SymbolEntry → Bool
is_code_type e = bit_and e.info 15 == 0 || bit_and e.info 15 == 2

-- the symbol is defined in a section: its section is neither SHN_UNDEF nor reserved (SHN_LORESERVE and above)
abbrev pub is_defined : SymbolEntry → Bool
is_defined e = nat_lt 0 e.section && nat_lt e.section 0xFF00

-- the bytes of the string table from the entry's name on, at most 256
abbrev pub name_field : List ℕ → SectionHeader → SymbolEntry → List ℕ
name_field file names e = take 256 (drop e.name (slice_range file names.offset (names.offset + names.len)))

-- a byte that a name may contain: a printable ASCII character other than the space
abbrev pub is_name_byte : ℕ → Bool
is_name_byte b = nat_le 0x21 b && nat_le b 0x7E

-- the length of the name at the beginning of a field
abbrev pub name_len : List ℕ → ℕ
name_len field = prefix_len is_name_byte field

-- the field begins with a name: one or more bytes, terminated by a 0
abbrev pub has_name : List ℕ → Bool
has_name field = nat_lt 0 (name_len field) && starts_with nat_eq (drop (name_len field) field) (0 ∷ [])

-- the name begins with ".L", like an assembler's own labels, or with "$", like marks in code
abbrev pub is_local_label : List ℕ → Bool
is_local_label field = starts_with nat_eq field (0x2E ∷ 0x4C ∷ []) || starts_with nat_eq field (0x24 ∷ [])

-- the entry has a type of code, a section, and a name that isn't a local label
abbrev pub is_listed : List ℕ → SectionHeader → SymbolEntry → Bool
is_listed file names e =
    is_code_type e && is_defined e && has_name (name_field file names e) && not (is_local_label (name_field file names e))

-- the symbol of an entry: its address, and the position of its name in the file
abbrev pub symbol_of : List ℕ → SectionHeader → SymbolEntry → Symbol
symbol_of file names e =
    record { address = e.address; name_at = names.offset + e.name; name_len = name_len (name_field file names e) }

-- the symbols of the entries that are listed, in the table's order
abbrev pub symbols_of : List ℕ → SymbolSections → List Symbol
symbols_of file t = map (symbol_of file t.names) (filter (is_listed file t.names) (symbol_entries file t.symbols))

-- the symbols are in ascending order of address
abbrev pub AreAscending : List Symbol → Type 0
AreAscending symbols = IsNonDecreasingBy (λ (s : Symbol). s.address) symbols

-- the second list is the first one sorted by address; symbols with the same address stay in their order
pub record AreSorted (listed symbols : List Symbol) : Type 0 where
  pub same : IsPermutation listed symbols
  pub ascending : AreAscending symbols
  pub stable : IsStableByKey (λ (s : Symbol). s.address) nat_cmp listed symbols

-- The symbols of code that a file names, sorted by address, those with the same address in the order of the symbol table.
-- They are the entries whose type is none or a function (STT_NOTYPE, STT_FUNC), whose section is a defined one, and whose
-- name has 1 to 255 bytes from 21 to 7E, terminated by a 0, and doesn't begin with `.L` or `$`. The symbol table is the
-- first one (SHT_SYMTAB), with entries of 16 bytes, and links to a string table (SHT_STRTAB). Both are in the file, a 32-bit
-- little-endian one with its section headers in it, each of 40 bytes. A file without them names no symbols.
pub record AreCodeSymbols (file : List ℕ) (symbols : List Symbol) : Type 0 where
  pub sorted : (t : SymbolSections) → AreSymbolSections file t → AreSorted (symbols_of file t) symbols
  pub none : ¬ HasSymbols file → symbols ≡ []

-- the symbol has a name of 1 to 255 bytes, which is in the file
pub record IsNamed (file : List ℕ) (s : Symbol) : Type 0 where
  pub some : 0 < s.name_len
  pub short : s.name_len < 256
  pub in_file : s.name_at + s.name_len ≤ length file

-- the bytes of the symbol's name in the file
abbrev pub name_of : List ℕ → Symbol → List ℕ
name_of file s = slice_range file s.name_at (s.name_at + s.name_len)

-- The program headers of an ELF file, and the segments of code that they name.
use Rattle.std.specs.Prelude.{ℕ, ◌+◌, ◌*◌, ◌^◌, ◌<◌, ◌≤◌, ◌==◌, ◌&&◌, Bool, List, length, map, filter, bit_and, nat_lt, slice_range, IsTrue}
use Rattle.std.specs.List.{range_with_len}
use Rattle.nc_elf.specs.declared.program.ProgramHeader.{ProgramHeader}
use Rattle.nc_elf.specs.declared.loaded.NcSegment.{NcSegment}
use Rattle.nc_elf.specs.declared.listing.Segment.{Segment}
use Rattle.nc_elf.specs.Header.{u32_at, e_phoff, e_phnum, HasTable}

-- the i-th program header, counted from 0
abbrev pub program_header : List ℕ → ℕ → ProgramHeader
program_header file i =
    record {
      kind = u32_at file (e_phoff file + 32 * i);
      offset = u32_at file (e_phoff file + 32 * i + 4);
      address = u32_at file (e_phoff file + 32 * i + 8);
      file_len = u32_at file (e_phoff file + 32 * i + 16);
      memory_len = u32_at file (e_phoff file + 32 * i + 20);
      flags = u32_at file (e_phoff file + 32 * i + 24);
    }

-- all program headers, in their order
abbrev pub program_headers : List ℕ → List ProgramHeader
program_headers file = map (λ i. program_header file i) (range_with_len 0 (e_phnum file))

-- the segment is loaded into memory (PT_LOAD)
abbrev pub is_load : ProgramHeader → Bool
is_load h = h.kind == 1

-- the segment is executable (PF_X)
abbrev pub is_executable : ProgramHeader → Bool
is_executable h = bit_and h.flags 1 == 1

-- the segment is writable (PF_W)
abbrev pub is_writable : ProgramHeader → Bool
is_writable h = bit_and h.flags 2 == 2

-- the segment is loaded and executable, and has at least one byte in the file
abbrev pub is_code : ProgramHeader → Bool
is_code h = is_load h && is_executable h && nat_lt 0 h.file_len

-- the position of a program header's bytes in memory and in the file; only the bytes in the file are counted
abbrev pub segment_of : ProgramHeader → Segment
segment_of h = record { address = h.address; offset = h.offset; len = h.file_len }

-- the segments of the program headers that name code: loaded (PT_LOAD), executable (PF_X), and with at least one byte
-- in the file; in the order of the file
abbrev pub segments_of : List ℕ → List Segment
segments_of file = map segment_of (filter is_code (program_headers file))

-- the segment's bytes are in the file
abbrev pub IsInFile : List ℕ → ProgramHeader → Type 0
IsInFile file h = h.offset + h.file_len ≤ length file

-- the segment has at least as many bytes in memory as in the file
abbrev pub IsInMemory : ProgramHeader → Type 0
IsInMemory h = h.file_len ≤ h.memory_len

-- the segment's addresses don't wrap around
abbrev pub IsBelowTop : ProgramHeader → Type 0
IsBelowTop h = h.address + h.memory_len ≤ 2 ^ 32

-- each loaded segment of the first i program headers ends at this address or below
pub record EndBy (file : List ℕ) (i : ℕ) (at : ℕ) : Type 0 where
  pub each : (j : ℕ) → j < i → IsTrue (is_load (program_header file j))
      → (program_header file j).address + (program_header file j).memory_len ≤ at

-- the segment isn't both executable and writable
abbrev pub IsNotWritableCode : ProgramHeader → Type 0
IsNotWritableCode h = IsTrue (is_executable h) → IsTrue (is_writable h) → ⊥

-- if the segment is executable, all its bytes in memory are in the file
abbrev pub IsFilled : ProgramHeader → Type 0
IsFilled h = IsTrue (is_executable h) → h.memory_len ≤ h.file_len

-- the loaded segment of the i-th program header has no fault
pub record IsGoodSegment (file : List ℕ) (i : ℕ) : Type 0 where
  pub in_file : IsInFile file (program_header file i)
  pub in_memory : IsInMemory (program_header file i)
  pub below_top : IsBelowTop (program_header file i)
  pub after_others : EndBy file i (program_header file i).address
  pub constant : IsNotWritableCode (program_header file i)
  pub filled : IsFilled (program_header file i)

-- each loaded segment of the first n program headers has no fault
pub record AreGood (file : List ℕ) (n : ℕ) : Type 0 where
  pub each : (i : ℕ) → i < n → IsTrue (is_load (program_header file i)) → IsGoodSegment file i

-- some program header names code
abbrev pub HasCode : List ℕ → Type 0
HasCode file = (i : ℕ) × (i < e_phnum file) × IsTrue (is_code (program_header file i))

-- A 32-bit little-endian ELF file of version 1 for the Intel 80386, an executable file or a shared object, with fewer
-- than 65535 program headers, each of 32 bytes and in the file. Some program header names code, and each loaded segment
-- is good: its bytes are in the file; it has at least as many in memory, no more if it is executable; it ends at 2^32
-- or below, and the loaded ones before it end at its address or below; it isn't both writable and executable.
pub record IsWellFormed (file : List ℕ) : Type 0 where
  pub table : HasTable file
  pub good : AreGood file (e_phnum file)
  pub code : HasCode file

-- the segment has at least one byte, its bytes are in the file, and they end at 2^32 or below
pub record IsPlaced (file : List ℕ) (s : Segment) : Type 0 where
  pub some : 0 < s.len
  pub in_file : s.offset + s.len ≤ length file
  pub below_top : s.address + s.len ≤ 2 ^ 32

-- the first segment ends at or below the address where the second begins
abbrev pub EndsBefore : Segment → Segment → Type 0
EndsBefore s t = s.address + s.len ≤ t.address

-- the bytes of the segment in the file
abbrev pub bytes_of : List ℕ → Segment → List ℕ
bytes_of file s = slice_range file s.offset (s.offset + s.len)

-- the segment is loaded (PT_LOAD), and has at least one byte in memory
abbrev pub is_present : ProgramHeader → Bool
is_present h = is_load h && nat_lt 0 h.memory_len

-- a loaded segment as its program header describes it: its address, the position of its bytes in the file, their number
-- in the file and in memory, and its flags (p_flags: 1 is PF_X, 2 is PF_W, 4 is PF_R)
abbrev pub loaded_of : ProgramHeader → NcSegment
loaded_of h =
    record { address = h.address; offset = h.offset; file_len = h.file_len; memory_len = h.memory_len; flags = h.flags }

-- the loaded segments of the file, of code and of data: those of the program headers of type PT_LOAD with at least one
-- byte in memory; in the order of the file
abbrev pub loaded_segments_of : List ℕ → List NcSegment
loaded_segments_of file = map loaded_of (filter is_present (program_headers file))

-- the flags have the bit of executable segments (PF_X)
abbrev pub HasExecutableFlag : ℕ → Type 0
HasExecutableFlag flags = IsTrue (bit_and flags 1 == 1)

-- the flags have the bit of writable segments (PF_W)
abbrev pub HasWritableFlag : ℕ → Type 0
HasWritableFlag flags = IsTrue (bit_and flags 2 == 2)

-- A segment that a loader can load without looking further. It has at least one byte in memory, and no more in the file. Those
-- are in the file, and the ones in memory end at 2^32 or below. If it is executable, it isn't writable, and all its bytes in
-- memory are in the file.
pub record IsLoadable (file : List ℕ) (s : NcSegment) : Type 0 where
  pub some : 0 < s.memory_len
  pub in_memory : s.file_len ≤ s.memory_len
  pub in_file : s.offset + s.file_len ≤ length file
  pub below_top : s.address + s.memory_len ≤ 2 ^ 32
  pub constant : HasExecutableFlag s.flags → HasWritableFlag s.flags → ⊥
  pub filled : HasExecutableFlag s.flags → s.memory_len ≤ s.file_len

-- the first segment's bytes in memory end at or below the address where those of the second begin
abbrev pub IsLoadedBelow : NcSegment → NcSegment → Type 0
IsLoadedBelow s t = s.address + s.memory_len ≤ t.address

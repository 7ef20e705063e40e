-- The fault of an ELF file: the first in the order of `ElfFault` and, for segments, of the program headers.
use Rattle.std.specs.Prelude.{◌≡◌, ◌≢◌, ℕ, ◌<◌, List, length, IsTrue, slice_index}
use Rattle.nc_elf.specs.declared.fault.ElfFault.{ElfFault}
use Rattle.nc_elf.specs.declared.fault.ElfFault.TheVariants.{NotElf, ShortHeader, Elf64, OtherFormat, OtherMachine, Unlinked}
use Rattle.nc_elf.specs.declared.fault.ElfFault.TheVariants.{OtherType, BadTable, BadSegment, NoCode, OutOfMemory}
use Rattle.nc_elf.specs.declared.fault.LoadedFault.{LoadedFault}
use Rattle.nc_elf.specs.declared.fault.LoadedFault.TheVariants.{NoRoom, Refused}
use Rattle.nc_elf.specs.declared.fault.SegmentFault.{SegmentFault}
use Rattle.nc_elf.specs.declared.fault.SegmentFault.TheVariants.{BeyondFile, BeyondMemory, Wraps, OutOfOrder, WritableCode, UnfilledCode}
use Rattle.nc_elf.specs.Header.{e_type, e_phnum, IsElf, HasWholeHeader, IsElf32, IsX86, IsLinked, HasTable}
use Rattle.nc_elf.specs.Segments.{program_header, is_load, HasCode, IsInFile, IsInMemory, IsBelowTop, EndBy, IsNotWritableCode}
use Rattle.nc_elf.specs.Segments.{IsFilled, AreGood, IsWellFormed, loaded_segments_of}

-- the first fault of the loaded segment of the i-th program header
abbrev pub HasSegmentFault : List ℕ → ℕ → SegmentFault → Type 0
HasSegmentFault file i BeyondFile = ¬ IsInFile file (program_header file i)
HasSegmentFault file i BeyondMemory = IsInFile file (program_header file i) × ¬ IsInMemory (program_header file i)
HasSegmentFault file i Wraps =
    IsInFile file (program_header file i) × IsInMemory (program_header file i) × ¬ IsBelowTop (program_header file i)
HasSegmentFault file i OutOfOrder =
    IsInFile file (program_header file i) × IsInMemory (program_header file i) × IsBelowTop (program_header file i)
    × ¬ EndBy file i (program_header file i).address
HasSegmentFault file i WritableCode =
    IsInFile file (program_header file i) × IsInMemory (program_header file i) × IsBelowTop (program_header file i)
    × EndBy file i (program_header file i).address × ¬ IsNotWritableCode (program_header file i)
HasSegmentFault file i UnfilledCode =
    IsInFile file (program_header file i) × IsInMemory (program_header file i) × IsBelowTop (program_header file i)
    × EndBy file i (program_header file i).address × IsNotWritableCode (program_header file i) × ¬ IsFilled (program_header file i)

-- the first loaded segment with a fault is that of the i-th program header
pub record IsFirstBad (file : List ℕ) (i : ℕ) (fault : SegmentFault) : Type 0 where
  pub table : HasTable file
  pub listed : i < e_phnum file
  pub loaded : IsTrue (is_load (program_header file i))
  pub before : AreGood file i
  pub why : HasSegmentFault file i fault

-- the first fault of the header
abbrev pub HasHeaderFault : List ℕ → ElfFault → Type 0
HasHeaderFault file NotElf = ¬ IsElf file
HasHeaderFault file ShortHeader = IsElf file × ¬ HasWholeHeader file
HasHeaderFault file Elf64 = IsElf file × HasWholeHeader file × (slice_index file 4 ≡ 2)
HasHeaderFault file OtherFormat = IsElf file × HasWholeHeader file × (slice_index file 4 ≢ 2) × ¬ IsElf32 file
HasHeaderFault file OtherMachine = IsElf file × HasWholeHeader file × IsElf32 file × ¬ IsX86 file
HasHeaderFault file Unlinked = IsElf file × HasWholeHeader file × IsElf32 file × IsX86 file × (e_type file ≡ 1)
HasHeaderFault file OtherType = IsElf file × HasWholeHeader file × IsElf32 file × IsX86 file × (e_type file ≢ 1) × ¬ IsLinked file
HasHeaderFault file BadTable =
    IsElf file × HasWholeHeader file × IsElf32 file × IsX86 file × (e_type file ≢ 1) × IsLinked file × ¬ HasTable file
HasHeaderFault file _ = ⊥

-- The first fault of a file: that of the header, that of the first loaded segment that isn't good, or the absence of code.
-- Lack of memory says nothing about a file except that it is well-formed.
abbrev pub HasElfFault : List ℕ → ElfFault → Type 0
HasElfFault file (BadSegment i fault) = IsFirstBad file i fault
HasElfFault file NoCode = HasTable file × AreGood file (e_phnum file) × ¬ HasCode file
HasElfFault file OutOfMemory = IsWellFormed file
HasElfFault file fault = HasHeaderFault file fault

-- A permitted refusal to write the loaded segments into a buffer with room for this many of them: the file's fault, which isn't
-- lack of memory; or, for a well-formed file, that it has more loaded segments, with their number.
abbrev pub MayRefuseLoaded : List ℕ → ℕ → LoadedFault → Type 0
MayRefuseLoaded file room (NoRoom wanted) = IsWellFormed file × (wanted ≡ length (loaded_segments_of file)) × (room < wanted)
MayRefuseLoaded file room (Refused fault) = HasElfFault file fault × (fault ≢ OutOfMemory)

-- The loaded segments of an ELF file as they are reported to a host: the numbers of refusals.
use Rattle.std.specs.Prelude.{ℕ}
use Rattle.nc_elf.specs.declared.fault.ElfFault.{ElfFault}
use Rattle.nc_elf.specs.declared.fault.ElfFault.TheVariants.{NotElf, ShortHeader, Elf64, OtherFormat, OtherMachine, Unlinked}
use Rattle.nc_elf.specs.declared.fault.ElfFault.TheVariants.{OtherType, BadTable, BadSegment, NoCode, OutOfMemory}
use Rattle.nc_elf.specs.declared.fault.LoadedFault.{LoadedFault}
use Rattle.nc_elf.specs.declared.fault.LoadedFault.TheVariants.{NoRoom, Refused}
use Rattle.nc_elf.specs.declared.fault.SegmentFault.{SegmentFault}
use Rattle.nc_elf.specs.declared.fault.SegmentFault.TheVariants.{BeyondFile, BeyondMemory, Wraps, OutOfOrder, WritableCode, UnfilledCode}
use Rattle.nc_vet.specs.declared.fault.VetFault.TheVariants as vet
use Rattle.nc_host.specs.declared.fault_numbers.TheConstants.{NO_ROOM, ELF_NOT_ELF, ELF_SHORT_HEADER, ELF_64_BITS, ELF_OTHER_FORMAT}
use Rattle.nc_host.specs.declared.fault_numbers.TheConstants.{ELF_OTHER_MACHINE, ELF_UNLINKED, ELF_OTHER_TYPE, ELF_BAD_TABLE}
use Rattle.nc_host.specs.declared.fault_numbers.TheConstants.{ELF_BEYOND_FILE, ELF_BEYOND_MEMORY, ELF_WRAPS, ELF_OUT_OF_ORDER}
use Rattle.nc_host.specs.declared.fault_numbers.TheConstants.{ELF_WRITABLE_CODE, ELF_UNFILLED_CODE, ELF_NO_CODE}
use Rattle.nc_host.specs.declared.lent_results.NcSegments.{NcSegments}
use Rattle.nc_host.specs.Shown.{fault_number}

-- the number of the fault of a loaded segment
abbrev pub segment_number : SegmentFault → ℕ
segment_number BeyondFile = ELF_BEYOND_FILE
segment_number BeyondMemory = ELF_BEYOND_MEMORY
segment_number Wraps = ELF_WRAPS
segment_number OutOfOrder = ELF_OUT_OF_ORDER
segment_number WritableCode = ELF_WRITABLE_CODE
segment_number UnfilledCode = ELF_UNFILLED_CODE

-- the number of the fault of an ELF file; for lack of memory, which `nc_host_elf` never reports, that of a chunk
abbrev pub elf_number : ElfFault → ℕ
elf_number NotElf = ELF_NOT_ELF
elf_number ShortHeader = ELF_SHORT_HEADER
elf_number Elf64 = ELF_64_BITS
elf_number OtherFormat = ELF_OTHER_FORMAT
elf_number OtherMachine = ELF_OTHER_MACHINE
elf_number Unlinked = ELF_UNLINKED
elf_number OtherType = ELF_OTHER_TYPE
elf_number BadTable = ELF_BAD_TABLE
elf_number (BadSegment number fault) = segment_number fault
elf_number NoCode = ELF_NO_CODE
elf_number OutOfMemory = fault_number vet.OutOfMemory

-- the number of the program header that names the segment with the fault, counted from 0; 0 for a fault of no segment
abbrev pub elf_header : ElfFault → ℕ
elf_header (BadSegment number fault) = number
elf_header _ = 0

-- a refusal as it is reported to a host: NO_ROOM, with the number of segments; else the number of the file's fault,
-- with the program header, and no segments
abbrev pub refused_file : LoadedFault → NcSegments
refused_file (NoRoom wanted) = record { count = wanted; fault = NO_ROOM; header = 0 }
refused_file (Refused fault) = record { count = 0; fault = elf_number fault; header = elf_header fault }

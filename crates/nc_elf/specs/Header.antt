-- The header of an ELF file, as the System V ABI lays it out for 32-bit files. Fields have the ABI's names.
use Rattle.std.specs.Prelude.{◌≡◌, ℕ, ◌+◌, ◌*◌, ◌<◌, ◌≤◌, ◌⊎◌, List, [], ◌∷◌, length, drop, slice_index, nat_eq, IsTrue}
use Rattle.std.specs.List.{starts_with}
use Rattle.byteorder.specs.Endian.{little_number}

-- the little-endian number in the two bytes at an offset
unfoldable pub u16_at : List ℕ → ℕ → ℕ
u16_at file at = little_number 2 (drop at file)

-- the little-endian number in the four bytes at an offset
unfoldable pub u32_at : List ℕ → ℕ → ℕ
u32_at file at = little_number 4 (drop at file)

-- the file's type: 1 is a relocatable file, 2 an executable file, 3 a shared object
abbrev pub e_type : List ℕ → ℕ
e_type file = u16_at file 16

-- the file's machine: 3 is the Intel 80386
abbrev pub e_machine : List ℕ → ℕ
e_machine file = u16_at file 18

-- the file's version, which byte 6 of the file repeats
abbrev pub e_version : List ℕ → ℕ
e_version file = u32_at file 20

-- the offset of the first program header
abbrev pub e_phoff : List ℕ → ℕ
e_phoff file = u32_at file 28

-- the length of a program header
abbrev pub e_phentsize : List ℕ → ℕ
e_phentsize file = u16_at file 42

-- the number of program headers; FFFF means that it is stored elsewhere
abbrev pub e_phnum : List ℕ → ℕ
e_phnum file = u16_at file 44

-- the file begins with 7F 45 4C 46
abbrev pub IsElf : List ℕ → Type 0
IsElf file = IsTrue (starts_with nat_eq file (0x7F ∷ 0x45 ∷ 0x4C ∷ 0x46 ∷ []))

-- the file has a whole ELF header, of 52 bytes
pub record HasWholeHeader (file : List ℕ) : Type 0 where
  pub elf : IsElf file
  pub long : 52 ≤ length file

-- the file is of class 1 (32 bits), encoding 1 (little-endian) and version 1 in both version fields
pub record IsElf32 (file : List ℕ) : Type 0 where
  pub whole : HasWholeHeader file
  pub size : slice_index file 4 ≡ 1
  pub order : slice_index file 5 ≡ 1
  pub ident : slice_index file 6 ≡ 1
  pub version : e_version file ≡ 1

-- the file is a 32-bit one, for the Intel 80386, machine 3
pub record IsX86 (file : List ℕ) : Type 0 where
  pub elf32 : IsElf32 file
  pub machine : e_machine file ≡ 3

-- the file is for the Intel 80386, and is an executable file or a shared object, type 2 or 3
pub record IsLinked (file : List ℕ) : Type 0 where
  pub x86 : IsX86 file
  pub linked : (e_type file ≡ 2) ⊎ (e_type file ≡ 3)

-- the file is linked, and its program headers are in it, fewer than 65535 and each of 32 bytes
pub record HasTable (file : List ℕ) : Type 0 where
  pub linked : IsLinked file
  pub size : e_phentsize file ≡ 32
  pub few : e_phnum file < 0xFFFF
  pub inside : e_phoff file + 32 * e_phnum file ≤ length file

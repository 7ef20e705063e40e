-- The names of instructions, and the text that they add.
use Rattle.std.specs.Prelude.{◌≡◌, ℕ, ◌≤◌, ◌<◌, List, ◌++◌, Bool, true, length, nat_le, nat_lt, ◌&&◌}
use Rattle.std.specs.List.{list_all}
use Rattle.nc_decode.specs.Spelling.{IsAtFront}
use Rattle.nc_decode.specs.declared.instruction.Instr.{Instr}
use Rattle.nc_disasm.specs.declared.naming.Name.{Name}

-- a printable character of ASCII, from the space to the tilde
abbrev pub is_printable : ℕ → Bool
is_printable byte = nat_le 0x20 byte && nat_lt byte 0x7F

-- at most 64 printable characters of ASCII were added to a text
pub record AddsPrintable (before after : List ℕ) : Type 0 where
  pub text : List ℕ
  pub added : after ≡ before ++ text
  pub printable : list_all is_printable text ≡ true
  pub short : length text ≤ 64

-- a name of at least one character and at most 64, all of them printable
pub record IsName (name : Name) : Type 0 where
  pub printable : list_all is_printable name.text ≡ true
  pub some : 0 < name.len
  pub short : name.len ≤ 64

-- the bytes begin with an instruction of this length
abbrev pub HasLength : List ℕ → ℕ → Type 0
HasLength bytes len = (i : Instr) × IsAtFront bytes i × (len ≡ i.len)

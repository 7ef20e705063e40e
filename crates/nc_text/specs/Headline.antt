-- The states in which a thread may be, in terms of the relation of instructions and without the machine's definitions.
use Rattle.std.specs.Prelude.{◌≡◌, ℕ, ◌+◌, ◌-◌, ◌%◌, ◌<◌, ◌≤◌, ◌⊎◌, List, length, drop, Some, IsTrue}
use Rattle.nc_decode.specs.declared.instruction.Instr.{Instr}
use Rattle.nc_decode.specs.Spelling.{IsAtFront}
use Rattle.nc_decode.specs.Barred.{IsBarred}
use Rattle.nc_decode.specs.Transfers.{is_indirect}
use Rattle.nc_text.specs.Machine.{State}

-- the place is in the region, and the bytes from there to the limit begin with a permitted instruction that isn't barred
-- and is inside one bundle; if it is an indirect transfer, its register has just been masked
pub record StandsInRegion (text : List ℕ) (now : State) : Type 0 where
  pub low : 0x10000 ≤ now.place
  pub high : now.place < 0x10000 + length text
  pub instr : Instr
  pub permitted : IsAtFront (drop (now.place - 0x10000) text) instr
  pub allowed : ¬ IsBarred permitted.front
  pub inside : now.place % 32 + instr.len ≤ 32
  pub masked : IsTrue (is_indirect instr.flow) → now.masked ≡ Some instr.reg

-- the place is a bundle start below 00010000; or it is in the region and has a permitted instruction that isn't barred
-- (`IsBarred`) and is inside one bundle, and if that is an indirect transfer, its register has just been masked
abbrev pub Stands : List ℕ → State → Type 0
Stands text now = ((now.place < 0x10000) × (now.place % 32 ≡ 0)) ⊎ StandsInRegion text now

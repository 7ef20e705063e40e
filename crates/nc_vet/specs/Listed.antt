-- The marks of a chunk, by the form in which they are kept.
use Rattle.std.specs.Prelude.{ℕ, List}
use Rattle.nc_decode.specs.declared.instruction.Mark.{Mark}
use Rattle.nc_vet.specs.declared.vetted.Marks.{Marks}
use Rattle.nc_vet.specs.declared.vetted.Marks.TheVariants.{Bits, Each}
use Rattle.nc_decode.specs.Bits.{marks_in}

-- the marks of a chunk, one for each byte of the code, from the form in which they are kept: the bits of its bundles,
-- or a list
abbrev pub listed : List ℕ → Marks → List Mark
listed code (Bits bundles) = marks_in code bundles.items
listed code (Each marks) = marks.items

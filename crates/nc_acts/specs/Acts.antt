-- The acts of a creation and of a deletion.
use Rattle.std.specs.Prelude.{ℕ, ◌+◌, Bool, if◌then◌else◌, List, [], ◌∷◌, ◌++◌}
use Rattle.std.specs.Prelude.{length, replicate}
use Rattle.nc_decode.specs.declared.instruction.Mark.{Mark}
pub use Rattle.nc_text.specs.Puts.{is_start, is_inside, starts_if, is_mark, is_marked_at, is_unmarked_at, marked_if}
use Rattle.nc_acts.specs.declared.acts.Act.{Act}
use Rattle.nc_acts.specs.declared.acts.Act.TheVariants.{Put, MarkSpan, Bump}

-- the puts of these bytes from this address on, in ascending order, at the places that pass the test
abbrev pub puts_where : (ℕ → Bool) → ℕ → List ℕ → List Act
puts_where chosen at [] = []
puts_where chosen at (byte ∷ rest) =
    if chosen at then Put at byte ∷ puts_where chosen (at + 1) rest else puts_where chosen (at + 1) rest

-- The acts of a creation: the bytes that aren't at bundle starts are put, then the whole chunk is marked, then the bytes
-- at bundle starts are put; puts are in ascending order. No put is skipped, even if the byte is there already
-- (Ansel et al. 2011).
abbrev pub acts_of_create : ℕ → List ℕ → List Act
acts_of_create base code =
    puts_where is_inside base code ++ (MarkSpan base (length code) ∷ puts_where is_start base code)

-- The acts of a deletion: F4 is put at the chunk's marked places, then at its other places, both in ascending order; then
-- the stamp is drawn. No put is skipped, even if F4 is there already (Ansel et al. 2011).
abbrev pub acts_of_delete : List Mark → ℕ → ℕ → List Act
acts_of_delete marks base len =
    puts_where (is_marked_at marks) base (replicate len 0xF4) ++ (puts_where (is_unmarked_at marks) base (replicate len 0xF4) ++ Bump ∷ [])

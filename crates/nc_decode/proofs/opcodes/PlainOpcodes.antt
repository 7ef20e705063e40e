-- The bytes that may stand as opcodes with no prefix before them.
use Rattle.std.proofs.Common.{◌≡◌, ℕ, ◌<◌, Bool, true, false, List, ◌∷◌, ◌==◌, ◌&&◌, refl, not}
use Rattle.nc_decode.specs.declared.entry.Prefix.TheVariants.{Absent as Unprefixed}
use Rattle.nc_decode.specs.machinery.Entries.{opcode_entry}
use Rattle.nc_decode.specs.machinery.Shapes.{prefix_of, forms_of, entry_shape, shape_of}
use Rattle.nc_decode.proofs.opcodes.EntriesMatchRows.{coded_plain}
use Rattle.nc_base.proofs.Offered.{each_below}
use Rattle.nc_base.proofs.Offered.{each_below-at, chosen_false, both, not_is}
use Rattle.nc_decode.proofs.reading.PrefixAndOpcode.{plain_is, header_read}

-- the byte is no prefix and no escape
abbrev stands : ℕ → Bool
stands b = coded_plain (prefix_of b) && not (b == 0x0F)

-- the byte is no prefix and no escape, if it has forms as an opcode
abbrev lone : ℕ → Bool
lone b = elim (forms_of Unprefixed (opcode_entry false b) == 0) [ true ↦ true | false ↦ stands b ]

-- each byte that has forms as an opcode is no prefix and no escape
each_lone : each_below lone 256 ≡ true
unfolding opcode_entry forms_of prefix_of
each_lone = refl

-- a byte that has forms as an opcode is read by its entry
pub lone_read : (b : ℕ) → b < 256 → (forms_of Unprefixed (opcode_entry false b) == 0) ≡ false → (rest : List ℕ)
    → shape_of (b ∷ rest) ≡ entry_shape Unprefixed 1 (opcode_entry false b) rest
lone_read b lt has rest =
    let parts = both (coded_plain (prefix_of b)) (not (b == 0x0F))
    (chosen_false (forms_of Unprefixed (opcode_entry false b) == 0) true (stands b) true has (each_below-at lone 256 b each_lone lt)) in
    header_read Unprefixed false b rest (record {
      escape = λ e. absurd cc;
      no_escape = λ e. not_is (b == 0x0F) parts.1;
      no_prefix = λ e. plain_is (prefix_of b) parts.0;
    })

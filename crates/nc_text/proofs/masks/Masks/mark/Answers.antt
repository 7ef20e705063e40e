use Rattle.std.proofs.Common.{◌≡◌, ℕ, ◌+◌, ◌*◌, rules}
use Rattle.std.specs.Int.{bit_at}
use Rattle.nc_decode.specs.declared.instruction.Mark.TheVariants.{After}
use Rattle.nc_text.specs.declared.masks.Masks.{Masks}
use Rattle.nc_text.specs.machinery.Masks.{mark_in}
use Rattle.nc_text.proofs.masks.Masks.mark.Goals as goal

-- the mark of a second half, by its bits
second_half : (m : Masks) (at start second low middle high : ℕ) → start ≡ bit_at m.starts at → (start ≡ 1 → ⊥)
    → second ≡ bit_at m.seconds at → second ≡ 1 → low ≡ bit_at m.low at → middle ≡ bit_at m.middle at → high ≡ bit_at m.high at
    → After (low + 2 * middle + 4 * high) ≡ mark_in m at
second_half m at start second low middle high s n t y l i h = search rules

pub returns-then-bit-eq1-2 : goal.returns-then-bit-eq1-2
returns-then-bit-eq1-2 c =
    second_half c.args.self.now c.args.at _ _ _ _ _ c.bit.ensures c.if-bit-eq1.false c.bit-else-bit-eq1.ensures c.if-bit-eq1-2.true
    c.bit-then-bit-eq1-2.ensures c.bit-then-bit-eq1-2-2.ensures c.bit-then-bit-eq1-2-3.ensures

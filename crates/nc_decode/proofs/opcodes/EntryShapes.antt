-- Which bytes after an opcode count for its shape.
use Rattle.std.proofs.Common.{◌≡◌, ℕ, ◌<◌, ◌≤◌, List, [], ◌∷◌, length, drop, false, slice_index_or, refl, arith}
use Rattle.nc_decode.specs.declared.entry.Entry.{Entry}
use Rattle.nc_decode.specs.declared.entry.Prefix.{Prefix}
use Rattle.nc_decode.specs.machinery.Shapes.{entry_shape, operand_shape, sized_operand, has_sib}

-- where an opcode has no operand, no byte after it counts for its shape
pub entry_with_none : (p : Prefix) (head : ℕ) (e : Entry) (xs ys : List ℕ) → e.operand ≡ false
    → entry_shape p head e xs ≡ entry_shape p head e ys
unfolding entry_shape
entry_with_none p head e xs ys none = rw (none) refl

-- where only ModRM follows an opcode and has no SIB after it, a zero byte behind it leaves the shape
pub entry_without_sib : (p : Prefix) (head : ℕ) (e : Entry) (rest : List ℕ)
    → 1 ≤ length rest → length rest < 2 → has_sib (slice_index_or rest 0 0) ≡ false
    → entry_shape p head e (slice_index_or rest 0 0 ∷ 0 ∷ []) ≡ entry_shape p head e rest
unfolding entry_shape operand_shape sized_operand
entry_without_sib p head e [] some few none = absurd (omega (arith, some))
entry_without_sib p head e (m ∷ []) some few none = rw (none) refl
entry_without_sib p head e (m ∷ n ∷ rest) some few none = absurd (omega (arith, few))

-- the first two bytes after an opcode, put together with the others, leave the shape
pub entry_of_two : (p : Prefix) (head : ℕ) (e : Entry) (rest : List ℕ) → 2 ≤ length rest
    → entry_shape p head e (slice_index_or rest 0 0 ∷ slice_index_or rest 1 0 ∷ drop 2 rest) ≡ entry_shape p head e rest
entry_of_two p head e [] two = absurd (omega (arith, two))
entry_of_two p head e (m ∷ []) two = absurd (omega (arith, two))
entry_of_two p head e (m ∷ n ∷ rest) two = refl

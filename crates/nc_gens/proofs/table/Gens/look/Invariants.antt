use Rattle.std.proofs.Common.{◌≡◌, ℕ, ◌+◌, ◌<◌, ◌≤◌, length, map, slice_index}
use Rattle.std.specs.List.{range_with_len}
use Rattle.nc_gens.specs.declared.view.WordStep.TheVariants.{TookWord}
use Rattle.nc_gens.specs.Trail.{Adds, is_by_keeper, IsRising}
use Rattle.nc_gens.specs.Seen.{IsLedTo, Raised}
use Rattle.nc_gens.proofs.table.Gens.look.Given as goal

abbrev pub invariant-loop-seat : goal.invariant-loop-seat
invariant-loop-seat l =
    (l.keeper.table ≡ l.fn.keeper.table)
    × (l.keeper.numbers.generation ≡ l.fn.keeper.numbers.generation)
    × Raised l.fn.keeper.numbers.bounds l.keeper.numbers.bounds
    × (length l.keeper.numbers.looks ≡ length l.fn.keeper.numbers.looks)
    × ((k : ℕ) → k < l.seat → k < length l.fn.keeper.numbers.looks
    → slice_index l.keeper.numbers.looks k ≡ slice_index l.fn.keeper.numbers.looks k + 1)
    × ((k : ℕ) → l.seat ≤ k → slice_index l.keeper.numbers.looks k ≡ slice_index l.fn.keeper.numbers.looks k)
    × Adds is_by_keeper l.fn.keeper.trail l.keeper.trail (map TookWord (range_with_len 0 l.seat))
    × IsLedTo l.keeper
    × (0 < l.seat → IsRising (length l.keeper.numbers.bounds) l.keeper.trail)

use Rattle.std.proofs.Common.{rules, arith, length, ap}
use Rattle.std.proofs.lemmas.Grind.{common_steps}
use Rattle.nc_gens.proofs.Recording.{takes_word}
use Rattle.nc_gens.proofs.table.Gens.look_at.Goals as goal

pub load-found-requires : goal.load-found-requires
load-found-requires c = let is = c.keeper.invariant in (
  search rules,
  search rules,
  takes_word _ _ _ _ is.is_keeper (let b = ap length is.bounds_are in let v =
      ap (λ k. length k.numbers.bounds) c.keeper.view_is in omega arith),
)

pub invariant_of-keeper : goal.invariant_of-keeper
invariant_of-keeper c = grind (arith, common_steps)

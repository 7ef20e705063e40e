use Rattle.std.proofs.Common.{rules, arith}
use Rattle.nc_gens.proofs.Recording.{adds_one}
use Rattle.nc_gens.proofs.table.Gens.bump.Goals as goal

pub fetch_add-requires : goal.fetch_add-requires
fetch_add-requires c = let is = c.keeper.invariant in
    (search rules, search rules, adds_one _ _ _ is.is_keeper (let g = is.generation_is in omega arith))

-- What a region's keeper knows of the words of the seats, compared with the world's.
use Rattle.std.proofs.Common.{◌≡◌, ℕ, ◌+◌, arith, ap, refl, subst}
use Rattle.nc_gens.specs.declared.view.KeeperNumbers.{KeeperNumbers}
use Rattle.nc_gens.specs.Rule.{generation_raised}
use Rattle.nc_histories.specs.Calls.{KnowsNoMore}

-- equal numbers say no more
pub knows_as_much : (k world : KeeperNumbers) → world ≡ k → KnowsNoMore k world
knows_as_much k world same =
    subst (λ (n : KeeperNumbers). KnowsNoMore n world) same
    (record { generation = refl; seats = refl; below = λ i lt. omega arith })

-- a keeper that knows no more than the world still doesn't once the generation of both is raised
pub knows_raised : (k world : KeeperNumbers) → KnowsNoMore k world → KnowsNoMore (generation_raised k) (generation_raised world)
knows_raised k world knows =
    record { generation = ap (λ (n : ℕ). n + 1) knows.generation; seats = knows.seats; below = knows.below }

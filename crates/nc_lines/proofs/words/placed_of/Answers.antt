use Rattle.nc_lines.proofs.words.placed_of.Goals as goal
use Rattle.std.proofs.Common.{◌≡◌, ℕ, List, map, Some, Bor, sym, arith}
use Rattle.std.proofs.lemmas.Grind.{common_steps}
use Rattle.nc_lines.specs.Words.{placed_in}

pub returns-in_default-address_of : goal.returns-in_default-address_of
returns-in_default-address_of c = grind (arith, common_steps)

pub returns-in-Some-2 : goal.returns-in-Some-2
returns-in-Some-2 c =
    let placed : placed_in (map (λ (w : Bor (List ℕ)). w.now) c.args.words.now) ≡ Some (c.in-Some.at, c.in-Some-2.bytes.items) =
    grind (arith, common_steps) in
    sym placed

pub returns-in-None : goal.returns-in-None
returns-in-None c = grind (arith, common_steps)

pub returns-in_default : goal.returns-in_default
returns-in_default c = grind (arith, common_steps)

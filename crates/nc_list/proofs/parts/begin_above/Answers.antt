use Rattle.std.proofs.Common.{◌+◌, ◌<◌, length, map, arith}
use Rattle.std.proofs.lemmas.Grind.{common_steps}
use Rattle.std.proofs.lemmas.Bool.{leb-true}
use Rattle.nc_list.proofs.Searching.{has_first, part_above}
use Rattle.nc_list.proofs.parts.begin_above.Goals as goal

pub returns-then-k-parts : goal.returns-then-k-parts
returns-then-k-parts g c = grind (arith, common_steps)

pub returns-else-k-parts : goal.returns-else-k-parts
returns-else-k-parts g c above =
    let lt : c.args.at < c.first.result = leb-true _ _ above in
    let behind : c.args.k + 1 < length c.args.parts.now = omega (arith, c.if-k-parts.false, c.requires.inside) in
    part_above (map g.T.Part.items c.args.parts.now) (c.args.k + 1) c.first.result c.args.at c.requires.ascending
    (has_first g.T.Part.items c.args.parts.now (c.args.k + 1) c.first.result c.index-parts-k.result c.requires.have (omega (arith, behind))
    behind c.index-parts-k.is c.first.ensures) (omega (arith, lt))

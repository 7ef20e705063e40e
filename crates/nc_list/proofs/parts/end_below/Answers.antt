use Rattle.std.proofs.Common.{◌<◌, length, map, arith}
use Rattle.std.proofs.lemmas.Bool.{leb-true}
use Rattle.nc_list.proofs.Searching.{has_first, part_below}
use Rattle.nc_list.proofs.parts.end_below.Goals as goal

pub returns-else-k-eq0 : goal.returns-else-k-eq0
returns-else-k-eq0 g c begins =
    let several : 1 < length c.args.parts.now = omega (arith, c.if-k-eq0.false, c.requires.inside) in
    part_below (map g.T.Part.items c.args.parts.now) c.args.k c.first.result c.args.at c.requires.ascending
    (has_first g.T.Part.items c.args.parts.now c.args.k c.first.result c.index-parts-k.result c.requires.have several c.requires.inside
    c.index-parts-k.is c.first.ensures) (leb-true _ _ begins)

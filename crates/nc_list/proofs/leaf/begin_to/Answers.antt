use Rattle.std.proofs.Common.{◌≤◌, ap, arith}
use Rattle.std.proofs.lemmas.Bool.{leb-true}
use Rattle.nc_list.specs.declared.chunk.Chunk.{Chunk}
use Rattle.nc_list.proofs.Finding.{begun_to}
use Rattle.nc_list.proofs.leaf.begin_to.Goals as goal

pub returns-else-count-eq0 : goal.returns-else-count-eq0
returns-else-count-eq0 c begins =
    let le : c.base.result ≤ c.args.at = leb-true _ _ begins in
    begun_to c.args.entries.now c.args.count c.args.at c.index-entries-count.result c.requires.ascending c.requires.enough
    (λ some. omega (arith, le, c.base.ensures, ap (λ (d : Chunk). d.base) c.index-entries-count.is))

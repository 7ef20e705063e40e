use Rattle.std.proofs.Common.{◌<◌, ap, arith}
use Rattle.std.proofs.lemmas.Bool.{leb-true}
use Rattle.nc_list.specs.declared.chunk.Chunk.{Chunk}
use Rattle.nc_list.proofs.Finding.{begun_above}
use Rattle.nc_list.proofs.leaf.begin_above.Goals as goal

pub returns-else-count-entries : goal.returns-else-count-entries
returns-else-count-entries c above =
    let lt : c.args.at < c.base.result = leb-true _ _ above in
    begun_above c.args.entries.now c.args.count c.args.at c.index-entries-count.result c.requires.ascending
    (λ inside. omega (arith, lt, c.base.ensures, ap (λ (d : Chunk). d.base) c.index-entries-count.is))

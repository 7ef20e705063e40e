use Rattle.std.proofs.Common.{subst}
use Rattle.std.proofs.lemmas.Bool.{leb-false}
use Rattle.nc_list.specs.Stamps.{AreSince}
use Rattle.nc_list.proofs.LowerBounds.{none_freed}
use Rattle.nc_list.proofs.list.ChunkList.may_be_due.Goals as goal

pub returns : goal.returns
returns c not =
    none_freed c.args.least c.oldest.result c.args.self.now (leb-false _ _ not)
    (subst (AreSince c.oldest.result) c.self.view_is c.oldest.ensures)

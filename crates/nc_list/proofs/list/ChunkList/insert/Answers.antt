use Rattle.std.proofs.lemmas.Result.{on_ok_weaker}
use Rattle.nc_list.proofs.Combining.{put_inserted}
use Rattle.nc_list.specs.Chunks.{live}
use Rattle.nc_list.proofs.list.ChunkList.insert.Goals as goal

pub returns-clause-ok : goal.returns-clause-ok
returns-clause-ok c =
    rw (← c.self.view_is)
    (on_ok_weaker c.insert.result (put_inserted c.self.inside.root c.insert.new.self (live c.args.base c.args.len)) c.insert.ensures.ok)

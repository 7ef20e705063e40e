use Rattle.nc_list.proofs.Taking.{taken_none}
use Rattle.nc_list.proofs.list.ChunkList.take_due.Goals as goal

pub returns-then-not-may_be_due-clause-taken : goal.returns-then-not-may_be_due-clause-taken
returns-then-not-may_be_due-clause-taken c =
    taken_none c.args.least c.args.self.now (c.may_be_due.ensures c.if-not-may_be_due.true)

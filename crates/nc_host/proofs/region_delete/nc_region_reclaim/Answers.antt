use Rattle.std.proofs.Common.{rules}
use Rattle.nc_host.proofs.region_delete.nc_region_reclaim.Goals as goal

pub returns-in-Some-freed-clause-reclaimed : goal.returns-in-Some-freed-clause-reclaimed
returns-in-Some-freed-clause-reclaimed c = λ ok. record {
  before = c.deref_mut.result.now;
  after = c.reclaim-freed.new.self;
  had = search rules;
  has = c.of.ensures;
  did = c.in-Some-freed.ensures.reclaimed;
}

pub returns-in-Some-freed-clause-pending : goal.returns-in-Some-freed-clause-pending
returns-in-Some-freed-clause-pending c = λ seats ok. record {
  before = c.deref_mut.result.now;
  after = c.reclaim-freed.new.self;
  had = search rules;
  has = c.of.ensures;
  did = c.in-Some-freed.ensures.pending seats;
}

use Rattle.nc_host_law.proofs.Concluding.{stands, fetch_whole, frees, lies, views, memory, stopped, confined}
use Rattle.nc_host_law.proofs.Storing.{stores}
use Rattle.nc_host_law.proofs.law.law_of_hosts.Goals as goal

pub returns-clause-stand : goal.returns-clause-stand
returns-clause-stand c = stands

pub returns-clause-whole : goal.returns-clause-whole
returns-clause-whole c = fetch_whole

pub returns-clause-freed : goal.returns-clause-freed
returns-clause-freed c = frees

pub returns-clause-lies : goal.returns-clause-lies
returns-clause-lies c = lies

pub returns-clause-views : goal.returns-clause-views
returns-clause-views c = views

pub returns-clause-memory : goal.returns-clause-memory
returns-clause-memory c = memory

pub returns-clause-stopped : goal.returns-clause-stopped
returns-clause-stopped c = stopped

pub returns-clause-confined : goal.returns-clause-confined
returns-clause-confined c = confined

pub returns-clause-stores : goal.returns-clause-stores
returns-clause-stores c = stores

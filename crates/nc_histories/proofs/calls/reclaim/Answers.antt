use Rattle.nc_histories.proofs.LoggedCalls.{reclaims}
use Rattle.nc_histories.proofs.calls.reclaim.Goals as goal

pub returns-clause-call : goal.returns-clause-call
returns-clause-call g c = λ seats. reclaims seats _ _ _ c.reclaim.ensures.reclaimed

pub returns-clause-reclaimed : goal.returns-clause-reclaimed
returns-clause-reclaimed g c = c.reclaim.ensures.reclaimed

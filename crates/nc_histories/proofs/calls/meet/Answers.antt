use Rattle.nc_histories.proofs.LoggedCalls.{meets}
use Rattle.nc_histories.proofs.calls.meet.Goals as goal

pub returns-clause-call : goal.returns-clause-call
returns-clause-call g c = λ seats. meets seats _ _ _ _ c.meet.ensures.met c.meet.ensures.others

pub returns-clause-met : goal.returns-clause-met
returns-clause-met g c = c.meet.ensures.met

pub returns-clause-others : goal.returns-clause-others
returns-clause-others g c = c.meet.ensures.others

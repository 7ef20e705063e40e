use Rattle.nc_acts.proofs.recorder.RecorderActs.ready.Goals as goal

pub returns-clause-ready : goal.returns-clause-ready
returns-clause-ready g c = c.ready.ensures.ready

pub returns-clause-only : goal.returns-clause-only
returns-clause-only g c = c.ready.ensures.only

use Rattle.nc_script.proofs.replay.run_queries.Goals as goal

pub returns : goal.returns
returns g c = c.run_in.ensures

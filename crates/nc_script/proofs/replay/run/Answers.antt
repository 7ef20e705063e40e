use Rattle.nc_script.proofs.replay.run.Goals as goal

pub returns : goal.returns
returns g c = c.run_gathered.ensures

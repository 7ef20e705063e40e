use Rattle.nc_script.proofs.replay.run_gathered.Goals as goal

pub returns : goal.returns
returns g c = c.run_in.ensures

use Rattle.nc_vet.proofs.lanes.read_one.Goals as goal

pub returns : goal.returns
returns c = c.bundle_bits.ensures c.args.code.now c.args.at c.requires.start c.requires.room c.run_one.ensures

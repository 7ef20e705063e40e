use Rattle.nc_vet.proofs.BundleStates.{states_told}
use Rattle.nc_vet.proofs.lane.bundle_bits.Goals as goal

pub returns : goal.returns
returns c = λ code at start room h. states_told code at c.args.states.now _ start room h c.bits_of_states.ensures

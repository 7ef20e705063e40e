use Rattle.nc_decode.proofs.stages.Stages.{next_small}
use Rattle.nc_decode.proofs.stages.Runs.{reads_by_states, none_is_paired}
use Rattle.nc_decode.proofs.law.law_of_automaton.Goals as goal

pub returns-clause-reads : goal.returns-clause-reads
returns-clause-reads c = reads_by_states

pub returns-clause-states : goal.returns-clause-states
returns-clause-states c = next_small

pub returns-clause-pairs : goal.returns-clause-pairs
returns-clause-pairs c = none_is_paired

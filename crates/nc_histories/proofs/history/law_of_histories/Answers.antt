use Rattle.nc_histories.proofs.AllTurns.{stand_always, whole_always, none_in_freed, text_at_end, confined_at_end}
use Rattle.nc_histories.proofs.Refusals.{refused_turn}
use Rattle.nc_histories.proofs.history.law_of_histories.Goals as goal

pub returns-clause-stand : goal.returns-clause-stand
returns-clause-stand c = stand_always

pub returns-clause-whole : goal.returns-clause-whole
returns-clause-whole c = whole_always

pub returns-clause-freed : goal.returns-clause-freed
returns-clause-freed c = none_in_freed

pub returns-clause-text : goal.returns-clause-text
returns-clause-text c = text_at_end

pub returns-clause-confined : goal.returns-clause-confined
returns-clause-confined c = confined_at_end

pub returns-clause-refused : goal.returns-clause-refused
returns-clause-refused c = refused_turn

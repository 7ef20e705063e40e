use Rattle.nc_histories.proofs.LoggedCalls.{deletes, deletes_nothing}
use Rattle.nc_histories.proofs.calls.delete.Goals as goal

pub returns-clause-call : goal.returns-clause-call
returns-clause-call g c = λ seats. deletes c.delete.result seats _ _ c.args.base c.delete.ensures.deleted

pub returns-clause-refused : goal.returns-clause-refused
returns-clause-refused g c = λ seats.
    deletes_nothing c.delete.result seats _ _ c.args.base c.delete.ensures.unchanged c.delete.ensures.refused

pub returns-clause-deleted : goal.returns-clause-deleted
returns-clause-deleted g c = c.delete.ensures.deleted

pub returns-clause-unchanged : goal.returns-clause-unchanged
returns-clause-unchanged g c = c.delete.ensures.unchanged

pub returns-clause-due : goal.returns-clause-due
returns-clause-due g c = c.delete.ensures.refused

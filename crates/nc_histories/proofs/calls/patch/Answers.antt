use Rattle.nc_histories.proofs.LoggedCalls.{patches, patches_nothing}
use Rattle.nc_histories.proofs.calls.patch.Goals as goal

pub returns-clause-call : goal.returns-clause-call
returns-clause-call g c = λ seats.
    patches c.modify.result seats _ _ c.args.at c.args.new.now c.modify.ensures.lawful c.modify.ensures.modified c.modify.ensures.log
    c.modify.ensures.unchanged

pub returns-clause-refused : goal.returns-clause-refused
returns-clause-refused g c =
    patches_nothing c.modify.result _ _ c.args.at c.args.new.now c.modify.ensures.unchanged c.modify.ensures.refused

pub returns-clause-patched : goal.returns-clause-patched
returns-clause-patched g c = c.modify.ensures.modified

pub returns-clause-lawful : goal.returns-clause-lawful
returns-clause-lawful g c = c.modify.ensures.lawful

pub returns-clause-unchanged : goal.returns-clause-unchanged
returns-clause-unchanged g c = c.modify.ensures.unchanged

pub returns-clause-due : goal.returns-clause-due
returns-clause-due g c = c.modify.ensures.refused

pub returns-clause-log : goal.returns-clause-log
returns-clause-log g c = c.modify.ensures.log

use Rattle.nc_histories.proofs.LoggedCalls.{creates, refuses}
use Rattle.nc_histories.proofs.calls.create.Goals as goal

pub returns-clause-call : goal.returns-clause-call
returns-clause-call g c = λ seats.
    creates c.create.result seats _ _ c.args.vetted c.code-facts.ensures.valid c.create.ensures.created c.create.ensures.log
    c.create.ensures.free

pub returns-clause-refused : goal.returns-clause-refused
returns-clause-refused g c = λ seats.
    refuses c.create.result seats _ _ c.args.vetted c.create.ensures.unchanged c.create.ensures.refused

pub returns-clause-created : goal.returns-clause-created
returns-clause-created g c = c.create.ensures.created

pub returns-clause-free : goal.returns-clause-free
returns-clause-free g c = c.create.ensures.free

pub returns-clause-unchanged : goal.returns-clause-unchanged
returns-clause-unchanged g c = c.create.ensures.unchanged

pub returns-clause-due : goal.returns-clause-due
returns-clause-due g c = c.create.ensures.refused

pub returns-clause-log : goal.returns-clause-log
returns-clause-log g c = c.create.ensures.log

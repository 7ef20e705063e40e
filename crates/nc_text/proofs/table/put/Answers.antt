use Rattle.std.proofs.Common.{arith, ◌/◌, ◌%◌}
use Rattle.std.proofs.lemmas.Grind.{common_steps}
use Rattle.nc_text.proofs.Tables.{IsLentPage, lent_page, made_within, made_kept, mark_kept}
use Rattle.nc_text.proofs.table.put.Goals as goal

-- the page of the place was lent
lent_of : (c : goal.After-pages-1) → IsLentPage c.args.pages.now (c.args.at / 4096) c.in-Some.page c.deref_mut.result.now
lent_of c = lent_page c.index-pages-at.result (made_within c.args.pages.now (c.args.at / 4096) c.requires.ready) c.in-Some.is
    c.deref_mut.ensures.value

pub returns-in-Some-clause-same : goal.returns-in-Some-clause-same
returns-in-Some-clause-same c = grind (arith, common_steps)

pub returns-in-Some-clause-other : goal.returns-in-Some-clause-other
returns-in-Some-clause-other c = grind (arith, common_steps)

pub returns-in-Some-clause-marks : goal.returns-in-Some-clause-marks
returns-in-Some-clause-marks c = λ k. mark_kept (lent_of c) c.put.new.self k (λ _. c.put.ensures.marks (k % 4096))

pub returns-in-Some-clause-made : goal.returns-in-Some-clause-made
returns-in-Some-clause-made c = made_kept (lent_of c) c.put.new.self

use Rattle.std.proofs.Common.{arith, ◌∙◌}
use Rattle.nc_text.proofs.Views.{IsLent, page_inside, byte_there}
use Rattle.nc_text.proofs.text.Text.read_run.Goals.{After-deref}
use Rattle.nc_text.proofs.text.Text.read_run.Goals as goal

-- the table of the text was lent
lent_of : (c : After-deref) → IsLent c.self.inside.pages.items c.deref.result.now c.self.inside.size c.args.self.now
lent_of c = record { loan = c.deref.ensures.value; view = c.self.view_is; kept = c.self.invariant }

pub read_run-requires-clause-inside : goal.read_run-requires-clause-inside
read_run-requires-clause-inside c = page_inside (lent_of c) c.args.at c.requires.inside

pub returns : goal.returns
returns c = λ k lt. c.read_run.ensures k lt
    ∙ byte_there (lent_of (goal.at.returns c).After-deref) c.args.at k c.requires.inside (omega (arith, c.requires.one_bundle, lt))

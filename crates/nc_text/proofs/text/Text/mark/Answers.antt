use Rattle.std.proofs.Common.{◌∙◌}
use Rattle.nc_text.proofs.Views.{IsLent, page_inside, mark_here}
use Rattle.nc_text.proofs.text.Text.mark.Goals.{After-deref}
use Rattle.nc_text.proofs.text.Text.mark.Goals as goal

-- the table of the text was lent
lent_of : (c : After-deref) → IsLent c.self.inside.pages.items c.deref.result.now c.self.inside.size c.args.self.now
lent_of c = record { loan = c.deref.ensures.value; view = c.self.view_is; kept = c.self.invariant }

pub mark-requires : goal.mark-requires
mark-requires c = page_inside (lent_of c) c.args.at c.requires

pub returns : goal.returns
returns c = c.mark.ensures ∙ mark_here (lent_of (goal.at.returns c).After-deref) c.args.at c.requires

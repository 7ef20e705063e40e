use Rattle.std.proofs.Common.{arith, ap, ◌∙◌}
use Rattle.nc_decode.specs.Bits.{mark_bit}
use Rattle.nc_text.proofs.Views.{IsLent, page_inside, mark_there}
use Rattle.nc_text.proofs.text.Text.marked_places.Goals.{After-deref}
use Rattle.nc_text.proofs.text.Text.marked_places.Goals as goal

-- the table of the text was lent
lent_of : (c : After-deref) → IsLent c.self.inside.pages.items c.deref.result.now c.self.inside.size c.args.self.now
lent_of c = record { loan = c.deref.ensures.value; view = c.self.view_is; kept = c.self.invariant }

pub marked-requires-clause-inside : goal.marked-requires-clause-inside
marked-requires-clause-inside c = page_inside (lent_of c) c.args.at c.requires.inside

pub returns : goal.returns
returns c = λ k lt.
    let lent = lent_of (goal.at.returns c).After-deref in
    c.marked.ensures k lt ∙ ap mark_bit (mark_there lent c.args.at k c.requires.inside (omega (arith, c.requires.start, lt)))

use Rattle.std.proofs.Common.{arith}
use Rattle.nc_text.proofs.Views.{IsLent, all_made, all_ready, lent_long, lent_made, span_within}
use Rattle.nc_text.proofs.text.Text.is_ready.Goals.{After-deref}
use Rattle.nc_text.proofs.text.Text.is_ready.Goals as goal

-- the table of the text was lent
lent_of : (c : After-deref) → IsLent c.self.inside.pages.items c.deref.result.now c.self.inside.size c.args.self.now
lent_of c = record { loan = c.deref.ensures.value; view = c.self.view_is; kept = c.self.invariant }

pub are_made-requires : goal.are_made-requires
are_made-requires c =
    let fits = span_within c.args.self.now.marked.bytes c.args.at c.args.len c.requires.inside (omega arith) in
    let long = lent_long (lent_of c) in
    omega (arith, fits.0, fits.1, long.0, long.1, c.div_ceil-end.ensures)

pub returns : goal.returns
returns c =
    let made = lent_made (lent_of (goal.at.returns c).After-deref) in
    let low = (span_within c.args.self.now.marked.bytes c.args.at c.args.len c.requires.inside (omega arith)).0 in
    let pages = c.deref.result.now in
    let end = c.div_ceil-end.ensures in (
      λ yes. all_ready pages c.args.self.now.made c.args.at c.args.len _ made low end (c.are_made.ensures.0 yes),
      λ ready. c.are_made.ensures.1 (all_made pages c.args.self.now.made c.args.at c.args.len _ made low (omega arith) end ready),
    )

use Rattle.std.proofs.Common.{◌-◌, ◌∙◌, arith}
use Rattle.std.proofs.lemmas.Grind.{common_steps}
use Rattle.nc_text.specs.MarkedText.{with_byte}
use Rattle.nc_text.proofs.Putting.{byte_put}
use Rattle.nc_text.proofs.Views.{IsLent, IsSeenAs, state, put_back, changed, lent_made, same_marks}
use Rattle.nc_text.proofs.text.Text.put.Goals as goal

-- the table of the text was lent
lent_of : (c : goal.After-self-1) → IsLent c.self.inside.pages.items c.deref_mut.result.now c.self.inside.size c.args.self.now
lent_of c = record { loan = c.deref_mut.ensures.value; view = c.self.view_is; kept = c.self.invariant }

-- the text is seen with this byte
seen_of : (c : goal.After-self-1) → IsSeenAs (put_back c.self.inside.pages.items c.put.new.pages c.self.inside.pages.len)
    c.self.inside.size (state (with_byte c.args.self.now.marked c.args.at c.args.byte) c.args.self.now.made)
seen_of c =
    let lent = lent_of c in
    changed lent c.put.new.pages c.self.inside.pages.len _ _ _ (omega (arith, c.self.inside.pages.ok.0)) c.put.auto.pages
    (byte_put lent c.put.new.pages (c.args.at - 65536) c.args.byte (omega (arith, c.requires.inside.0, c.requires.inside.1)) c.put.ensures.same
    c.put.ensures.other)
    (same_marks lent c.put.new.pages c.put.ensures.marks) (c.put.ensures.made ∙ lent_made lent) c.requires.closed

pub put-requires : goal.put-requires
put-requires c = grind (arith, common_steps)

pub invariant_of-self : goal.invariant_of-self
invariant_of-self c = let seen = seen_of c in (seen.whole, seen.long)

pub returns : goal.returns
returns c = let seen = seen_of c in record { marked = seen.marked; made = seen.made; whole = seen.whole }

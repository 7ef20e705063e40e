use Rattle.std.proofs.Common.{Bool, List, arith, map, refl, subst, sym}
use Rattle.std.specs.Option.{is_some}
use Rattle.nc_text.specs.Ready.{AreReady, GetsReady}
use Rattle.nc_text.proofs.Views.{IsLent, IsSeenAs, state, put_back, all_ready, gets_ready, lent_long, make_done, span_within}
use Rattle.nc_text.proofs.text.Text.ready.Goals.{After-make}
use Rattle.nc_text.proofs.text.Text.ready.Goals as goal

pub make-requires-clause-inside : goal.make-requires-clause-inside
make-requires-clause-inside c =
    let lent : IsLent c.self.inside.pages.items c.deref_mut.result.now c.self.inside.size c.args.self.now =
    record { loan = c.deref_mut.ensures.value; view = c.self.view_is; kept = c.self.invariant } in
    let fits = span_within c.args.self.now.marked.bytes c.args.at c.args.len c.requires.inside (omega arith) in
    let long = lent_long lent in
    omega (arith, fits.0, fits.1, long.0, long.1, c.div_ceil-end.ensures)

-- the table of the text was lent
lent_of : (c : After-make) → IsLent c.self.inside.pages.items c.deref_mut.result.now c.self.inside.size c.args.self.now
lent_of c = record { loan = c.deref_mut.ensures.value; view = c.self.view_is; kept = c.self.invariant }

-- the text is seen with the pages that are made
seen_of : (c : After-make) → IsSeenAs (put_back c.self.inside.pages.items c.make.new.pages c.self.inside.pages.len) c.self.inside.size
    (state c.args.self.now.marked (map is_some c.make.new.pages))
seen_of c = make_done (lent_of c) c.make.new.pages c.self.inside.pages.len (omega (arith, c.self.inside.pages.ok.0)) c.make.auto.pages
    c.make.ensures.bytes c.make.ensures.marks

-- only pages of the span are made
only_of : (c : After-make) → GetsReady c.args.self.now.made
    (map is_some (put_back c.self.inside.pages.items c.make.new.pages c.self.inside.pages.len)) c.args.at c.args.len
only_of c =
    let low = (span_within c.args.self.now.marked.bytes c.args.at c.args.len c.requires.inside (omega arith)).0 in
    subst (λ (ds : List Bool). GetsReady c.args.self.now.made ds c.args.at c.args.len) (sym (seen_of c).made)
    (gets_ready (lent_of c) c.make.new.pages c.args.at c.args.len c.div_ceil-end.result low (omega arith) c.div_ceil-end.ensures
    c.make.ensures.kept c.make.ensures.needed)

pub invariant_of-self : goal.invariant_of-self
invariant_of-self c = let seen = seen_of (goal.at.invariant_of-self c).After-make in (seen.whole, seen.long)

pub invariant_of-self-2 : goal.invariant_of-self-2
invariant_of-self-2 c = let seen = seen_of (goal.at.invariant_of-self-2 c).After-make in (seen.whole, seen.long)

pub returns-in_default-clause-only : goal.returns-in_default-clause-only
returns-in_default-clause-only c = only_of (goal.at.returns-in_default-clause-only c).After-make

pub returns-in_default-clause-marked : goal.returns-in_default-clause-marked
returns-in_default-clause-marked c = (seen_of (goal.at.returns-in_default-clause-marked c).After-make).marked

pub returns-in_default-clause-whole : goal.returns-in_default-clause-whole
returns-in_default-clause-whole c = (seen_of (goal.at.returns-in_default-clause-whole c).After-make).whole

pub returns-clause-only : goal.returns-clause-only
returns-clause-only c = only_of (goal.at.returns-clause-only c).After-make

pub returns-clause-marked : goal.returns-clause-marked
returns-clause-marked c = (seen_of (goal.at.returns-clause-marked c).After-make).marked

pub returns-clause-whole : goal.returns-clause-whole
returns-clause-whole c = (seen_of (goal.at.returns-clause-whole c).After-make).whole

pub returns-clause-ready : goal.returns-clause-ready
returns-clause-ready c =
    let low = (span_within c.args.self.now.marked.bytes c.args.at c.args.len c.requires.inside (omega arith)).0 in
    subst (λ (ds : List Bool). AreReady ds c.args.at c.args.len) (sym (seen_of (goal.at.returns-clause-ready c).After-make).made)
    (all_ready c.make.new.pages _ c.args.at c.args.len c.div_ceil-end.result refl low c.div_ceil-end.ensures c.in-Ok.ensures.made)

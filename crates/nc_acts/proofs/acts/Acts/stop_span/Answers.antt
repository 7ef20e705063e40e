use Rattle.std.proofs.Common.{true, ◌≡◌, ℕ, ◌+◌, ◌-◌, ◌<◌, ◌≤◌, ◌∙◌, List, [], ◌∷◌, replicate, arith, sym, ap, subst}
use Rattle.std.proofs.lemmas.List.{get_or-replicate, length-replicate}
use Rattle.nc_decode.specs.declared.instruction.Mark.{Mark}
use Rattle.nc_text.specs.MarkedText.{MarkedText, with_stops}
use Rattle.nc_acts.proofs.Stopping.{same_code}
use Rattle.nc_text.specs.Places.{limit_of, byte_at}
use Rattle.nc_acts.specs.declared.acts.Entry.TheVariants.{Serialized}
use Rattle.nc_acts.specs.Acts.{is_marked_at, is_unmarked_at}
use Rattle.nc_acts.specs.Chunks.{HasGoodSpan}
use Rattle.nc_text.specs.Puts.{HasPut}
use Rattle.nc_acts.proofs.Logged.{logs_more}
use Rattle.nc_acts.proofs.Stopping.{marked_closed, others_closed, all_stops}
use Rattle.nc_acts.proofs.acts.Acts.stop_span.Given.{Over}
use Rattle.nc_acts.proofs.acts.Acts.stop_span.Goals.{After-serialize}
use Rattle.nc_acts.proofs.acts.Acts.stop_span.Goals as goal

pub stop_where-requires-clause-inside : goal.stop_where-requires-clause-inside
stop_where-requires-clause-inside g c = λ k lt. (omega (arith, c.requires.placed.low), omega (arith, c.requires.placed.high, lt))

pub stop_where-requires-clause-closed : goal.stop_where-requires-clause-closed
stop_where-requires-clause-closed g c = λ count now few puts.
    marked_closed (g.Self.Acts.marked c.args.self.now) now c.args.at c.args.len count c.requires.placed
    (omega (arith, few, length-replicate {A = ℕ} c.args.len 244)) c.limit-facts.ensures.whole.closed puts

-- stops stand at the marked places, once the region has serialized
marked_stopped : (g : Over) (c : After-serialize g) → (at : ℕ) → c.args.at ≤ at → at < c.args.at + c.args.len
    → is_marked_at (g.Self.Acts.marked c.args.self.now).marks at ≡ true → byte_at (g.Self.Acts.marked c.serialize.new.self).bytes at ≡ 244
marked_stopped g c at low high marked =
    ap (λ (m : MarkedText). byte_at m.bytes at) c.serialize.ensures.marked
    ∙ (c.stop_where.ensures.bytes.put at low high marked
    ∙ get_or-replicate c.args.len (at - c.args.at) 244 0 (omega (arith, low, high)))

-- once the region has serialized after the stops at marked places, the marks are as before
marks_then : (g : Over) (c : After-serialize g) → (g.Self.Acts.marked c.serialize.new.self).marks ≡ (g.Self.Acts.marked c.args.self.now).marks
marks_then g c = ap (λ (m : MarkedText). m.marks) c.serialize.ensures.marked ∙ c.stop_where.ensures.marks

-- once the region has serialized after the stops at marked places, the span lies in the region
placed_then : (g : Over) (c : After-serialize g)
    → HasGoodSpan c.args.at (limit_of (g.Self.Acts.marked c.serialize.new.self).bytes) c.args.len
placed_then g c =
    rw c.serialize.ensures.marked (subst (λ (n : ℕ). HasGoodSpan c.args.at (65536 + n) c.args.len) (sym c.stop_where.ensures.bytes.as_long)
    c.requires.placed)

pub stop_where-requires-2-clause-inside : goal.stop_where-requires-2-clause-inside
stop_where-requires-2-clause-inside g c = λ k lt.
    let placed = placed_then g (goal.at.stop_where-requires-2-clause-inside g c).After-serialize in
    (omega (arith, placed.low), omega (arith, placed.high, lt))

pub stop_where-requires-2-clause-ready : goal.stop_where-requires-2-clause-ready
stop_where-requires-2-clause-ready g c = rw (c.serialize.ensures.made, c.stop_where.ensures.made) c.requires.ready

pub stop_where-requires-2-clause-stopped : goal.stop_where-requires-2-clause-stopped
stop_where-requires-2-clause-stopped g c = λ other at low high marked.
    let here = (goal.at.stop_where-requires-2-clause-stopped g c).After-serialize in
    marked_stopped g here at low high (subst (λ (marks : List Mark). is_marked_at marks at ≡ true) (marks_then g here) marked)

pub stop_where-requires-2-clause-closed : goal.stop_where-requires-2-clause-closed
stop_where-requires-2-clause-closed g c = λ count now few puts.
    let here = (goal.at.stop_where-requires-2-clause-closed g c).After-serialize in
    others_closed (g.Self.Acts.marked c.serialize.new.self) now c.args.at c.args.len count (placed_then g here)
    (omega (arith, few, length-replicate {A = ℕ} c.args.len 244)) c.serialize.ensures.whole.closed
    (λ at low high marked. marked_stopped g here at low high
    (subst (λ (marks : List Mark). is_marked_at marks at ≡ true) (marks_then g here) marked)) puts

pub returns-clause-marked : goal.returns-clause-marked
returns-clause-marked g c =
    let old = g.Self.Acts.marked c.args.self.now in
    let mid = g.Self.Acts.marked c.serialize.new.self in
    let now = g.Self.Acts.marked c.stop_where-2.new.self in
    let here = (goal.at.returns-clause-marked g c).After-serialize in
    let first = subst (λ (m : MarkedText). HasPut (is_marked_at old.marks) c.args.at (replicate c.args.len 244) c.args.len old.bytes m.bytes)
    (sym c.serialize.ensures.marked) c.stop_where.ensures.bytes in
    let second = subst (λ (marks : List Mark). HasPut (is_unmarked_at marks) c.args.at
    (replicate c.args.len 244) c.args.len mid.bytes now.bytes) (marks_then g here) c.stop_where-2.ensures.bytes in
    same_code now (with_stops old c.args.at c.args.len)
    (all_stops old.bytes mid.bytes now.bytes old.marks c.args.at c.args.len c.requires.placed.low
    (omega (arith, c.requires.placed.high)) first second)
    (c.stop_where-2.ensures.marks ∙ marks_then g here)

pub returns-clause-made : goal.returns-clause-made
returns-clause-made g c = c.stop_where-2.ensures.made ∙ (c.serialize.ensures.made ∙ c.stop_where.ensures.made)

pub returns-clause-keeper : goal.returns-clause-keeper
returns-clause-keeper g c = c.stop_where-2.ensures.keeper ∙ (c.serialize.ensures.keeper ∙ c.stop_where.ensures.keeper)

pub returns-clause-logged : goal.returns-clause-logged
returns-clause-logged g c =
    let second = rw (marks_then g (goal.at.returns-clause-logged g c).After-serialize) at c.stop_where-2.ensures.logged in
    logs_more _ _ _ _ _ c.stop_where.ensures.logged (logs_more _ _ _ (Serialized ∷ []) _ c.serialize.ensures.logged second)

use Rattle.std.proofs.Common.{sym, subst, rules}
use Rattle.nc_text.specs.Places.{limit_of}
use Rattle.nc_acts.specs.Chunks.{HasGoodSpan}
use Rattle.nc_acts.specs.Plain.{PlainState}
use Rattle.nc_acts.proofs.Stopping.{stops_closed_throughout}
use Rattle.nc_acts.proofs.plain.PlainOfActs.stop_span.Goals as goal

pub stop_span-requires-clause-closed : goal.stop_span-requires-clause-closed
stop_span-requires-clause-closed g c =
    stops_closed_throughout c.self.inside.text.marked c.args.at c.args.len
    (subst (λ (p : PlainState). HasGoodSpan c.args.at (limit_of p.marked.bytes) c.args.len) (sym c.self.view_is) c.requires.placed)
    c.limit-facts.ensures.whole.closed

pub returns-clause-logged : goal.returns-clause-logged
returns-clause-logged g c = search rules

pub returns-clause-marked : goal.returns-clause-marked
returns-clause-marked g c = rw (sym c.self.view_is) c.stop_span.ensures.marked

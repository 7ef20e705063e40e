use Rattle.std.proofs.Common.{length, sym, subst}
use Rattle.nc_decode.specs.Bits.{marks_in}
use Rattle.nc_text.specs.Places.{limit_of}
use Rattle.nc_acts.specs.Chunks.{IsClosedChunk, IsUnused}
use Rattle.nc_acts.specs.Plain.{PlainState}
use Rattle.nc_acts.proofs.Joining.{Joins, chunk_keeps}
use Rattle.nc_acts.proofs.Creating.{chunk_closed_throughout}
use Rattle.nc_acts.proofs.plain.PlainOfActs.put_bundles.Given.{Over}
use Rattle.nc_acts.proofs.plain.PlainOfActs.put_bundles.Goals.{After-put_bundles-arg-1}
use Rattle.nc_acts.proofs.plain.PlainOfActs.put_bundles.Goals as goal

-- the chunk may stand in the text
joins : (g : Over) (c : After-put_bundles-arg-1 g) → Joins c.self.inside.text.marked c.args.at c.args.code.now
    (marks_in c.args.code.now c.args.bundles.now)
joins g c =
    let whole = c.limit-facts.ensures.whole in
    record {
      closed = whole.closed;
      as_long = whole.as_long;
      chunk = subst (λ (p : PlainState). IsClosedChunk c.args.at (limit_of p.marked.bytes) c.args.code.now
          (marks_in c.args.code.now c.args.bundles.now)) (sym c.self.view_is) c.requires.chunk;
      unused = subst (λ (p : PlainState). IsUnused p.marked c.args.at (length c.args.code.now)) (sym c.self.view_is) c.requires.unused;
    }

pub put_bundles-requires-clause-keeps : goal.put_bundles-requires-clause-keeps
put_bundles-requires-clause-keeps g c =
    chunk_keeps c.self.inside.text.marked c.args.at c.args.code.now (marks_in c.args.code.now c.args.bundles.now) (joins g c)

pub put_bundles-requires-clause-closed : goal.put_bundles-requires-clause-closed
put_bundles-requires-clause-closed g c =
    chunk_closed_throughout c.self.inside.text.marked c.args.at c.args.code.now (marks_in c.args.code.now c.args.bundles.now) (joins g c)

pub returns-clause-logged : goal.returns-clause-logged
returns-clause-logged g c = λ _. rw (sym c.self.view_is) c.note.ensures

pub returns-clause-marked : goal.returns-clause-marked
returns-clause-marked g c = λ _. rw (sym c.self.view_is) c.put_bundles.ensures.marked

use Rattle.std.proofs.Common.{◌≡◌, ap, ℕ, ◌+◌, ◌-◌, List, [], ◌∷◌, length, arith, sym, subst, ◌∙◌}
use Rattle.std.proofs.lemmas.Grind.{common_steps}
use Rattle.nc_decode.specs.declared.instruction.Mark.{Mark}
use Rattle.nc_text.specs.Marks.{IsClosed}
use Rattle.nc_text.specs.Places.{limit_of}
use Rattle.nc_text.specs.MarkedText.{MarkedText, IsText, with_span, KeepsMarks}
use Rattle.nc_acts.specs.declared.acts.Act.TheVariants.{MarkSpan}
use Rattle.nc_acts.specs.declared.acts.Entry.TheVariants.{Did, Serialized}
use Rattle.nc_acts.specs.Chunks.{IsClosedChunk, IsUnused, with_chunk}
use Rattle.nc_acts.proofs.Offered.{logs_more}
use Rattle.nc_acts.proofs.Offered.{Joins, chunk_joins, chunk_keeps}
use Rattle.nc_acts.proofs.Offered.{IsFinalBut, inside_closed, final_but_closed, final_but_starts, final_all, starts_final}
use Rattle.nc_acts.proofs.Offered.{same_code}
use Rattle.nc_region.proofs.create.put_listed.Given.{Over}
use Rattle.nc_region.proofs.create.put_listed.Goals.{After-put_where, After-mark_listed}
use Rattle.nc_region.proofs.create.put_listed.Goals as goal

joins : (marked : MarkedText) (base : ℕ) (bytes : List ℕ) (marks : List Mark) → IsText marked
    → IsClosedChunk base (limit_of marked.bytes) bytes marks → IsUnused marked base (length bytes) → Joins marked base bytes marks
joins marked base bytes marks whole chunk unused =
    record { closed = whole.closed; as_long = whole.as_long; chunk = chunk; unused = unused }

pub put_where-requires-clause-inside : goal.put_where-requires-clause-inside
put_where-requires-clause-inside g c = λ k lt.
    let placed = c.requires.can.chunk.placed in
    (omega (arith, placed.low), omega (arith, placed.high, lt))

pub put_where-requires-clause-closed : goal.put_where-requires-clause-closed
put_where-requires-clause-closed g c = λ count now few puts.
    inside_closed (g.A.Acts.marked c.args.acts.now) now c.args.base c.args.code.now count c.requires.can.chunk.placed few
    c.requires.can.whole.closed c.requires.can.unused puts

-- the text is the final one, but for stops at bundle starts
almost : (g : Over) (c : After-put_where g) → IsFinalBut (with_span (g.A.Acts.marked c.args.acts.now).bytes (c.args.base - 65536) c.args.code.now)
    (g.A.Acts.marked c.put_where.new.self).bytes c.args.base (c.args.base + length c.args.code.now)
almost g c =
    final_but_starts (g.A.Acts.marked c.args.acts.now) (g.A.Acts.marked c.put_where.new.self).bytes c.args.base c.args.code.now
    c.requires.can.chunk.placed c.requires.can.unused c.put_where.ensures.bytes

-- the bytes and marks before the bundle starts are put
bytes_then : (g : Over) (c : After-mark_listed g) → (g.A.Acts.marked c.mark_listed.new.acts).bytes ≡ (g.A.Acts.marked c.put_where.new.self).bytes
bytes_then g c =
    ap (λ (m : MarkedText). m.bytes) c.mark_listed.ensures.marked ∙ ap (λ (m : MarkedText). m.bytes) c.serialize.ensures.marked

marks_then : (g : Over) (c : After-mark_listed g) → (g.A.Acts.marked c.mark_listed.new.acts).marks
    ≡ with_span (g.A.Acts.marked c.args.acts.now).marks (c.args.base - 65536) c.args.vetted.now.marks
marks_then g c =
    ap (λ (m : MarkedText). m.marks) c.mark_listed.ensures.marked
    ∙ ap (λ (marks : List Mark). with_span marks (c.args.base - 65536) c.args.vetted.now.marks)
    (ap (λ (m : MarkedText). m.marks) c.serialize.ensures.marked ∙ c.put_where.ensures.marks)

pub mark_listed-requires-clause-as_long : goal.mark_listed-requires-clause-as_long
mark_listed-requires-clause-as_long g c = grind (arith, common_steps)

pub mark_listed-requires-clause-ready : goal.mark_listed-requires-clause-ready
mark_listed-requires-clause-ready g c = rw (c.serialize.ensures.made, c.put_where.ensures.made, ← c.requires.code) c.requires.can.ready

pub mark_listed-requires-clause-keeps : goal.mark_listed-requires-clause-keeps
mark_listed-requires-clause-keeps g c =
    let old = g.A.Acts.marked c.args.acts.now in
    let j = joins old c.args.base c.args.code.now c.args.vetted.now.marks c.requires.can.whole c.requires.can.chunk c.requires.can.unused in
    rw c.serialize.ensures.marked (subst (λ (marks : List Mark). KeepsMarks marks (with_span marks (c.args.base - 65536) c.args.vetted.now.marks))
    (sym c.put_where.ensures.marks) (chunk_keeps old c.args.base c.args.code.now c.args.vetted.now.marks j))

pub mark_listed-requires-clause-closed : goal.mark_listed-requires-clause-closed
mark_listed-requires-clause-closed g c =
    let old = g.A.Acts.marked c.args.acts.now in
    let now = g.A.Acts.marked c.put_where.new.self in
    let j = joins old c.args.base c.args.code.now c.args.vetted.now.marks c.requires.can.whole c.requires.can.chunk c.requires.can.unused in
    rw c.serialize.ensures.marked (subst (λ (marks : List Mark). IsClosed now.bytes (with_span marks (c.args.base - 65536) c.args.vetted.now.marks))
    (sym c.put_where.ensures.marks)
    (final_but_closed (with_span old.bytes (c.args.base - 65536) c.args.code.now) now.bytes
    (with_span old.marks (c.args.base - 65536) c.args.vetted.now.marks) c.args.base (c.args.base + length c.args.code.now) (omega arith)
    (chunk_joins old c.args.base c.args.code.now c.args.vetted.now.marks j) (almost g (goal.at.mark_listed-requires-clause-closed g c).After-put_where)))

pub put_where-requires-2-clause-inside : goal.put_where-requires-2-clause-inside
put_where-requires-2-clause-inside g c = grind (arith, common_steps)

pub put_where-requires-2-clause-ready : goal.put_where-requires-2-clause-ready
put_where-requires-2-clause-ready g c =
    rw (c.mark_listed.ensures.made, c.serialize.ensures.made, c.put_where.ensures.made) c.requires.can.ready

pub put_where-requires-2-clause-closed : goal.put_where-requires-2-clause-closed
put_where-requires-2-clause-closed g c = λ count now few puts.
    let old = g.A.Acts.marked c.args.acts.now in
    let base = c.args.base in
    let code = c.args.code.now in
    let final : List ℕ = with_span old.bytes (base - 65536) code in
    let j = joins old base code c.args.vetted.now.marks c.requires.can.whole c.requires.can.chunk c.requires.can.unused in
    let here = goal.at.put_where-requires-2-clause-closed g c in
    let before = subst (λ (bytes : List ℕ). IsFinalBut final bytes base (base + length code)) (sym (bytes_then g here.After-mark_listed))
    (almost g here.After-put_where) in
    let f = starts_final old.bytes (g.A.Acts.marked c.mark_listed.new.acts).bytes now base code count c.requires.can.chunk.placed.low
    (omega (arith, c.requires.can.chunk.placed.high)) few before puts in
    subst (λ (marks : List Mark). IsClosed now marks) (sym (marks_then g here.After-mark_listed))
    (final_but_closed final now (with_span old.marks (base - 65536) c.args.vetted.now.marks) (base + count) (base + length code)
    (omega (arith, few)) (chunk_joins old base code c.args.vetted.now.marks j) f)

pub returns-clause-put : goal.returns-clause-put
returns-clause-put g c =
    let old = g.A.Acts.marked c.args.acts.now in
    let base = c.args.base in
    let code = c.args.code.now in
    let final : List ℕ = with_span old.bytes (base - 65536) code in
    let here = goal.at.returns-clause-put g c in
    let before = subst (λ (bytes : List ℕ). IsFinalBut final bytes base (base + length code)) (sym (bytes_then g here.After-mark_listed))
    (almost g here.After-put_where) in
    let now = g.A.Acts.marked c.put_where-2.new.self in
    let f = starts_final old.bytes (g.A.Acts.marked c.mark_listed.new.acts).bytes now.bytes base code (length code)
    c.requires.can.chunk.placed.low (omega (arith, c.requires.can.chunk.placed.high)) (omega arith) before c.put_where-2.ensures.bytes in
    record {
      marked = same_code now (with_chunk old base code c.args.vetted.now.marks) (final_all final now.bytes (base + length code) f)
          (c.put_where-2.ensures.marks ∙ marks_then g here.After-mark_listed);
      whole = c.put_where-2.ensures.whole;
      log =
          logs_more _ _ _ _ _ c.put_where.ensures.logged (logs_more _ _ _ (Serialized ∷ []) _ c.serialize.ensures.logged
          (logs_more _ _ _ (Did (MarkSpan base (length code)) ∷ []) _ (rw (← c.requires.code) at c.mark_listed.ensures.logged)
          c.put_where-2.ensures.logged));
    }

use Rattle.std.proofs.Common.{◌≡◌, true, false, ◌∙◌, length, arith, sym, subst, refl}
use Rattle.nc_text.proofs.Offered.{confined_if_closed}
use Rattle.nc_region.specs.Patch.{IsHeldBy, IsPatch, MayRefusePatch}
use Rattle.nc_region.specs.Region.{Region}
use Rattle.nc_region.proofs.patching.Standing.{lies}
use Rattle.nc_region.proofs.chunks.ReadyPlaces.{ready_part, ready_held}
use Rattle.nc_region.proofs.patching.Patched.{region_patched, held_holds, patch_lawful, refused_in}
use Rattle.nc_region.specs.Patch.{acts_of_patch, log_of_patch}
use Rattle.nc_acts.proofs.Offered.{told_logged}
use Rattle.nc_region.proofs.patching.Told.{patch_acts}
use Rattle.nc_region.proofs.RegionParts.{region_of}
use Rattle.nc_region.proofs.region.RegionOf.modify.Goals as goal

pub returns-then-not-is_patch_span-clause-confined : goal.returns-then-not-is_patch_span-clause-confined
returns-then-not-is_patch_span-clause-confined g c = rw (← c.self.view_is) (confined_if_closed _ _ c.self.invariant.0.whole.closed)

pub returns-in_default-clause-confined : goal.returns-in_default-clause-confined
returns-in_default-clause-confined g c = rw (← c.self.view_is) (confined_if_closed _ _ c.self.invariant.0.whole.closed)

pub returns-then-not-is_patch_span-clause-modified : goal.returns-then-not-is_patch_span-clause-modified
returns-then-not-is_patch_span-clause-modified g c = tt

pub returns-then-not-is_patch_span-clause-acts : goal.returns-then-not-is_patch_span-clause-acts
returns-then-not-is_patch_span-clause-acts g c = tt

pub returns-then-not-is_patch_span-clause-log : goal.returns-then-not-is_patch_span-clause-log
returns-then-not-is_patch_span-clause-log g c = tt

pub returns-then-not-is_patch_span-clause-lawful : goal.returns-then-not-is_patch_span-clause-lawful
returns-then-not-is_patch_span-clause-lawful g c = tt

pub returns-then-not-is_patch_span-clause-unchanged : goal.returns-then-not-is_patch_span-clause-unchanged
returns-then-not-is_patch_span-clause-unchanged g c = refl

pub returns-in_default-clause-modified : goal.returns-in_default-clause-modified
returns-in_default-clause-modified g c = tt

pub returns-in_default-clause-acts : goal.returns-in_default-clause-acts
returns-in_default-clause-acts g c = tt

pub returns-in_default-clause-log : goal.returns-in_default-clause-log
returns-in_default-clause-log g c = tt

pub returns-in_default-clause-lawful : goal.returns-in_default-clause-lawful
returns-in_default-clause-lawful g c = tt

pub returns-in_default-clause-unchanged : goal.returns-in_default-clause-unchanged
returns-in_default-clause-unchanged g c = refl

pub returns-then-not-is_patch_span-clause-refused : goal.returns-then-not-is_patch_span-clause-refused
returns-then-not-is_patch_span-clause-refused g c = λ span.
    let yes : c.is_patch_span.result ≡ true = c.is_patch_span.ensures.1 span in
    let differ : true ≡ false = sym yes ∙ c.if-not-is_patch_span.true in
    cc

pub returns-in_default-clause-refused : goal.returns-in_default-clause-refused
returns-in_default-clause-refused g c =
    let spans : c.is_patch_span.result ≡ true = c.if-not-is_patch_span.false in
    rw (← c.self.view_is) (c.is_patch_span.ensures.0 spans, c.in_default.ensures.none)

pub patch-requires-clause-ends : goal.patch-requires-clause-ends
patch-requires-clause-ends g c =
    let held : IsHeldBy c.self.inside.chunks c.args.at c.in-Some.chunk = c.in-Some.ensures.some in
    let l = lies (g.A.Acts.marked c.self.inside.acts) c.in-Some.chunk c.self.invariant.0.whole
    (held_holds (g.A.Acts.marked c.self.inside.acts) c.self.inside.chunks c.args.at c.in-Some.chunk c.self.invariant.0 held) in
    let spans : c.is_patch_span.result ≡ true = c.if-not-is_patch_span.false in
    omega (arith, (c.is_patch_span.ensures.0 spans).1, held.2.0, held.2.1, l.start, l.whole)

pub patch-requires-clause-place : goal.patch-requires-clause-place
patch-requires-clause-place g c =
    let marked = g.A.Acts.marked c.self.inside.acts in
    let held : IsHeldBy c.self.inside.chunks c.args.at c.in-Some.chunk = c.in-Some.ensures.some in
    let holds = held_holds marked c.self.inside.chunks c.args.at c.in-Some.chunk c.self.invariant.0 held in
    let l = lies marked c.in-Some.chunk c.self.invariant.0.whole holds in
    record {
      whole = c.self.invariant.0.whole;
      holds = holds;
      from = held.2;
      mark_is = c.mark_within-mark.ensures (omega (arith, l.low, held.2.0), omega (arith, l.high, held.2.0, held.2.1));
    }

pub patch-requires-clause-ready : goal.patch-requires-clause-ready
patch-requires-clause-ready g c =
    let held : IsHeldBy c.self.inside.chunks c.args.at c.in-Some.chunk = c.in-Some.ensures.some in
    let l = lies (g.A.Acts.marked c.self.inside.acts) c.in-Some.chunk c.self.invariant.0.whole
    (held_holds (g.A.Acts.marked c.self.inside.acts) c.self.inside.chunks c.args.at c.in-Some.chunk c.self.invariant.0 held) in
    let spans : c.is_patch_span.result ≡ true = c.if-not-is_patch_span.false in
    ready_part _ c.in-Some.chunk.base c.in-Some.chunk.length c.args.at (length c.args.new.now)
    (ready_held _ c.self.inside.chunks c.in-Some.chunk c.self.invariant.1 held.0) held.2.0
    (omega (arith, (c.is_patch_span.ensures.0 spans).1, held.2.0, held.2.1, l.start, l.whole))

pub invariant_of-self : goal.invariant_of-self
invariant_of-self g c =
    (rw c.in-Err.ensures.unchanged.0 c.self.invariant.0, rw c.patch.ensures.made c.self.invariant.1)

pub returns-in-Err-clause-refused : goal.returns-in-Err-clause-refused
returns-in-Err-clause-refused g c =
    let spans : c.is_patch_span.result ≡ true = c.if-not-is_patch_span.false in
    let held : IsHeldBy c.self.inside.chunks c.args.at c.in-Some.chunk = c.in-Some.ensures.some in
    let refused = refused_in (region_of (g.A.Acts.marked c.self.inside.acts) (g.A.Acts.made c.self.inside.acts) c.self.inside.chunks
    (g.A.Acts.keeper c.self.inside.acts) (g.A.Acts.logged c.self.inside.acts)) c.args.at c.args.new.now c.in-Some.chunk c.in-Err.fault
    c.self.invariant.0.ascending (c.is_patch_span.ensures.0 spans) held c.in-Err.ensures.refused in
    subst (λ (r : Region). MayRefusePatch r c.args.at c.args.new.now c.in-Err.fault) c.self.view_is refused

pub returns-in-Err-clause-confined : goal.returns-in-Err-clause-confined
returns-in-Err-clause-confined g c = confined_if_closed _ _ c.patch.ensures.whole.closed

pub invariant_of-self-2 : goal.invariant_of-self-2
invariant_of-self-2 g c =
    let marked = g.A.Acts.marked c.self.inside.acts in
    let held : IsHeldBy c.self.inside.chunks c.args.at c.in-Some.chunk = c.in-Some.ensures.some in
    let l = lies marked c.in-Some.chunk c.self.invariant.0.whole
    (held_holds (g.A.Acts.marked c.self.inside.acts) c.self.inside.chunks c.args.at c.in-Some.chunk c.self.invariant.0 held) in
    let spans : c.is_patch_span.result ≡ true = c.if-not-is_patch_span.false in
    let span = c.is_patch_span.ensures.0 spans in
    let region = region_patched marked (g.A.Acts.marked c.patch.new.acts) c.self.inside.chunks c.in-Some.chunk c.args.at
    c.args.new.now
    (record {
      region = c.self.invariant.0;
      held = held;
      holds = c.in_default-patch.ensures.patched.holds;
      whole = c.patch.ensures.whole;
      bytes_are =
          c.in_default-patch.ensures.patched.bytes;
      marks_are = c.patch.ensures.marks;
      low = l.low;
      high = omega (arith, l.high);
      ends =
          omega (arith, span.1, held.2.0, held.2.1, l.start, l.whole);
    }) in
    (region, rw c.patch.ensures.made c.self.invariant.1)

pub returns-clause-confined : goal.returns-clause-confined
returns-clause-confined g c = confined_if_closed _ _ c.patch.ensures.whole.closed

pub returns-clause-acts : goal.returns-clause-acts
returns-clause-acts g c = λ news are.
    let text = (g.A.Acts.marked c.self.inside.acts).bytes in
    rw (← c.self.view_is)
    (told_logged (g.A.Acts.logged c.self.inside.acts) (g.A.Acts.logged c.patch.new.acts) (log_of_patch text c.args.at news)
    (acts_of_patch text c.args.at news) (patch_acts text c.args.at news) (c.in_default-patch.ensures.patched.log news are))

pub returns-clause-lawful : goal.returns-clause-lawful
returns-clause-lawful g c =
    let spans : c.is_patch_span.result ≡ true = c.if-not-is_patch_span.false in
    let held : IsHeldBy c.self.inside.chunks c.args.at c.in-Some.chunk = c.in-Some.ensures.some in
    let lawful = patch_lawful (region_of (g.A.Acts.marked c.self.inside.acts) (g.A.Acts.made c.self.inside.acts) c.self.inside.chunks
    (g.A.Acts.keeper c.self.inside.acts) (g.A.Acts.logged c.self.inside.acts)) c.args.at c.args.new.now c.in-Some.chunk
    (c.is_patch_span.ensures.0 spans) held c.in_default-patch.ensures.can in
    subst (λ (r : Region). IsPatch r c.args.at c.args.new.now) c.self.view_is lawful

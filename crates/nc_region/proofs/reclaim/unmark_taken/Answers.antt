use Rattle.std.proofs.Common.{◌≡◌, ◌+◌, ◌<◌, List, [], ◌∷◌, length, take, drop, slice_index_or, arith, refl, sym, subst, ◌∙◌}
use Rattle.std.proofs.lemmas.List.{take_all, drop_all}
use Rattle.nc_text.specs.MarkedText.{MarkedText}
use Rattle.nc_list.specs.declared.chunk.Chunk.{Chunk}
use Rattle.nc_region.specs.Quiet.{IsQuiet}
use Rattle.nc_region.specs.machinery.Freeing.{AreTakenOut, AreUnmarked}
use Rattle.nc_region.proofs.events.Unmarking.{freed_closed}
use Rattle.nc_region.proofs.deleting.Freed.{span_of}
use Rattle.nc_region.proofs.deleting.TakingOut.{taken_at, taken_more, none_taken, unmarks_none, unmarks_one, unmarks_more}
use Rattle.nc_region.proofs.reclaim.unmark_taken.Goals as goal

pub loop-i-init : goal.loop-i-init
loop-i-init g c = record {
  others = λ least left out. out;
  unmarks = unmarks_none (g.A.Acts.marked c.args.acts.now) (g.A.Acts.logged c.args.acts.now);
  made = refl;
  keeper = refl;
}

pub unmark_span-requires-clause-inside : goal.unmark_span-requires-clause-inside
unmark_span-requires-clause-inside g c =
    let n = taken_at c.requires.0 (g.A.Acts.marked c.loop-i.acts) c.requires.1 c.args.taken.now c.loop-i.i c.chunk-chunk.result
    (omega (arith, c.loop-i-test.true)) (subst (λ (d : Chunk). d ≡ slice_index_or c.args.taken.now c.loop-i.i d) (sym c.chunk-chunk.ensures) c.index-taken-i.is)
    (c.loop-i.invariant.others c.requires.0 c.requires.1 c.requires.2) in
    λ k lt. (omega (arith, n.0.whole.low), omega (arith, n.0.whole.high, lt))

pub unmark_span-requires-clause-stops : goal.unmark_span-requires-clause-stops
unmark_span-requires-clause-stops g c =
    let n = taken_at c.requires.0 (g.A.Acts.marked c.loop-i.acts) c.requires.1 c.args.taken.now c.loop-i.i c.chunk-chunk.result
    (omega (arith, c.loop-i-test.true)) (subst (λ (d : Chunk). d ≡ slice_index_or c.args.taken.now c.loop-i.i d) (sym c.chunk-chunk.ensures) c.index-taken-i.is)
    (c.loop-i.invariant.others c.requires.0 c.requires.1 c.requires.2) in
    let quiet : IsQuiet (g.A.Acts.marked c.loop-i.acts).bytes (g.A.Acts.marked c.loop-i.acts).marks (span_of c.chunk-chunk.result) = n.1 in
    λ k lt. quiet.stops _ (omega arith, omega (arith, lt))

pub unmark_span-requires-clause-closed : goal.unmark_span-requires-clause-closed
unmark_span-requires-clause-closed g c =
    let n = taken_at c.requires.0 (g.A.Acts.marked c.loop-i.acts) c.requires.1 c.args.taken.now c.loop-i.i c.chunk-chunk.result
    (omega (arith, c.loop-i-test.true)) (subst (λ (d : Chunk). d ≡ slice_index_or c.args.taken.now c.loop-i.i d) (sym c.chunk-chunk.ensures) c.index-taken-i.is)
    (c.loop-i.invariant.others c.requires.0 c.requires.1 c.requires.2) in
    freed_closed (g.A.Acts.marked c.loop-i.acts) (span_of c.chunk-chunk.result) n.0

pub loop-i-preserved : goal.loop-i-preserved
loop-i-preserved g c =
    let taken = c.args.taken.now in
    let found : Chunk = c.chunk-chunk.result in
    let marked = g.A.Acts.marked c.loop-i.acts in
    let lt : c.loop-i.i < length taken = omega (arith, c.loop-i-test.true) in
    record {
      others = λ least left out.
          subst (λ (m : MarkedText). AreTakenOut least m left (drop (c.loop-i.i + 1) taken)) (sym c.unmark_span.ensures.marked)
          (taken_at least marked left taken c.loop-i.i found lt (subst (λ (d : Chunk). d ≡ slice_index_or c.args.taken.now c.loop-i.i d) (sym c.chunk-chunk.ensures) c.index-taken-i.is) (c.loop-i.invariant.others least left out)).2;
      unmarks =
          subst (λ (z : List Chunk). AreUnmarked z (g.A.Acts.marked c.args.acts.now) (g.A.Acts.marked c.unmark_span.new.self) (g.A.Acts.logged c.args.acts.now)
          (g.A.Acts.logged c.unmark_span.new.self)) (sym (taken_more taken c.loop-i.i found lt (subst (λ (d : Chunk). d ≡ slice_index_or c.args.taken.now c.loop-i.i d) (sym c.chunk-chunk.ensures) c.index-taken-i.is)))
          (unmarks_more (take c.loop-i.i taken) (found ∷ []) _ _ _ _ _ _ c.loop-i.invariant.unmarks
          (unmarks_one found _ _ _ _ c.unmark_span.ensures.marked c.unmark_span.ensures.logged));
      made = c.unmark_span.ensures.made ∙ c.loop-i.invariant.made;
      keeper = c.unmark_span.ensures.keeper ∙ c.loop-i.invariant.keeper;
    }

pub returns : goal.returns
returns g c =
    let taken = c.args.taken.now in
    record {
      region = λ least left out.
          none_taken least (g.A.Acts.marked c.loop-i.acts) left
          (subst (AreTakenOut least (g.A.Acts.marked c.loop-i.acts) left)
          (drop_all c.loop-i.i taken (omega (arith, c.loop-i-test.false)))
          (c.loop-i.invariant.others least left out));
      unmarks =
          subst (λ (z : List Chunk). AreUnmarked z (g.A.Acts.marked c.args.acts.now) (g.A.Acts.marked c.loop-i.acts) (g.A.Acts.logged c.args.acts.now)
          (g.A.Acts.logged c.loop-i.acts)) (take_all c.loop-i.i taken (omega (arith, c.loop-i-test.false)))
          c.loop-i.invariant.unmarks;
      made = c.loop-i.invariant.made;
      keeper = c.loop-i.invariant.keeper;
    }

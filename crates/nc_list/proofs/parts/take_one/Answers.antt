use Rattle.std.proofs.Common.{◌≡◌, ℕ, ◌<◌, List, [], length, get_or, map, take, refl, sym, ap, ◌∙◌, arith, subst}
use Rattle.std.proofs.lemmas.Grind.{common_steps}
use Rattle.std.proofs.lemmas.List.{length-map, length-take-le}
use Rattle.nc_list.specs.declared.chunk.Chunk.{Chunk}
use Rattle.nc_list.specs.Chunks.{AreTaken, freed}
use Rattle.nc_list.proofs.Pieces.{inside_too, part_is}
use Rattle.nc_list.proofs.Parting.{kept_parts}
use Rattle.nc_list.proofs.LowerBounds.{none_freed}
use Rattle.nc_list.proofs.Taking.{taken_at, taken_nothing, passed_more}
use Rattle.nc_list.proofs.parts.take_one.Goals as goal
use Rattle.nc_list.proofs.parts.take_one.Goals.{then-oldest-least+else-count-ne0, else-oldest-least}

pub returns-then-count-ne0-clause-some : goal.returns-then-count-ne0-clause-some
returns-then-count-ne0-clause-some g c =
    let so = c.loop-k.invariant in
    let lt = inside_too g.T.Part.items c.loop-k.parts.items c.args.parts.now.items c.loop-k.k so.same
    (omega (arith, c.loop-k-test.true, c.len-k-end.ensures, c.args.parts.now.ok.0)) in
    let many = length-take-le c.take_due-count.result c.take_due-count.new.room c.take_due-count.ensures.count in
    taken_at g.T.Part.items c.loop-k.parts.items c.args.parts.now.items c.loop-k.k c.index_mut.result.now c.take_due-count.new.self
    c.args.least (take c.take_due-count.result c.take_due-count.new.room) lt so.same c.index_mut.ensures.value c.take_due-count.ensures.taken so.earlier
    (λ is. c.if-count-ne0.true (omega (arith, many, ap (λ (z : List Chunk). length z) is)))

pub loop-k-preserved : goal.loop-k-preserved
loop-k-preserved g c =
    let so = c.loop-k.invariant in
    let parts = map g.T.Part.items c.args.parts.now.items in
    let long : length parts ≡ length c.args.parts.now.items = length-map c.args.parts.now.items g.T.Part.items in
    let lt = inside_too g.T.Part.items c.loop-k.parts.items c.args.parts.now.items c.loop-k.k so.same
    (omega (arith, c.loop-k-test.true, c.len-k-end.ensures, c.args.parts.now.ok.0)) in
    let inside : c.loop-k.k < length parts = omega (arith, c.loop-k-test.true, c.len-k-end.ensures, c.args.parts.now.ok.0, long) in
    elim c.if-oldest-least.branch [
      | then-oldest-least+else-count-ne0 w ↦
          let took = subst (λ (n : ℕ). AreTaken c.args.least (g.T.Part.items w.index_mut.result.now) (g.T.Part.items w.take_due-count.new.self)
          (take n w.take_due-count.new.room)) w.if-count-ne0.false w.take_due-count.ensures.taken in
          let here = part_is g.T.Part.items c.loop-k.parts.items c.loop-k.k w.index_mut.result.now lt w.index_mut.ensures.value
          ∙ ap (λ (z : List (List Chunk)). get_or z c.loop-k.k []) so.same in
          rw (w.parts-is, w.room-is) (record {
            same = kept_parts g.T.Part.items c.loop-k.parts.items c.loop-k.k w.index_mut.result.now w.take_due-count.new.self lt
                w.index_mut.ensures.value (taken_nothing c.args.least _ _ took)
                ∙ so.same;
            room = w.take_due-count.ensures.room ∙ so.room;
            earlier = passed_more c.args.least parts c.loop-k.k inside so.earlier
                (sym (ap (freed c.args.least) here) ∙ took.none refl);
          })
      | else-oldest-least w ↦
          let here = part_is g.T.Part.items c.loop-k.parts.items c.loop-k.k c.index.result.now lt c.index.ensures
          ∙ ap (λ (z : List (List Chunk)). get_or z c.loop-k.k []) so.same in
          rw (w.parts-is, w.room-is) (record {
            same = so.same;
            room = so.room;
            earlier = passed_more c.args.least parts c.loop-k.k inside so.earlier
                (sym (ap (freed c.args.least) here)
                ∙ none_freed c.args.least c.oldest.result _ (omega (arith, w.if-oldest-least.false)) c.oldest.ensures);
          })
    ]

pub returns-clause-none : goal.returns-clause-none
returns-clause-none g c = grind (arith, common_steps)

use Rattle.std.proofs.Common.{arith, rules, ◌≡◌, ◌++◌, ℕ, List, [], Err, take, refl, sym, ap, ◌∙◌, subst, append_assoc, append-nil}
use Rattle.std.proofs.lemmas.Grind.{common_steps}
use Rattle.std.proofs.lemmas.List.{drop_all}
use Rattle.nc_output.proofs.Offered.{moves_front}
use Rattle.nc_lines.specs.machinery.Progress.{KeepsUp, Feeds}
use Rattle.nc_lines.proofs.lines.feed_parts.Goals as goal

pub loop-rest-init : goal.loop-rest-init
loop-rest-init g c = (
  [],
  refl,
  refl,
  λ start before bytes s.
      subst (λ (xs : List ℕ). KeepsUp g.S.Responder.replies start before xs c.args.responder.now
      (g.W.Write.contents c.args.writer.now) c.args.replies.now.held.items c.args.line.now.items) (sym (append-nil bytes)) s,
)

pub slice_bounds-rest-count : goal.slice_bounds-rest-count
slice_bounds-rest-count g c = grind (arith, common_steps)

pub loop-rest-smaller : goal.loop-rest-smaller
loop-rest-smaller g c = grind (arith, common_steps)

pub loop-rest-preserved : goal.loop-rest-preserved
loop-rest-preserved g c =
    let (done, split, most, so_far) = c.loop-rest.invariant in
    let rest = c.loop-rest.rest.now in
    let n = c.in-Ok.count in (
      done ++ take n rest,
      moves_front _ done rest n split,
      c.in-Ok.ensures.most ∙ most,
      λ start before bytes s.
          subst (λ (xs : List ℕ). KeepsUp g.S.Responder.replies start before xs c.feed_part.new.responder
          (g.W.Write.contents c.feed_part.new.writer) c.feed_part.new.replies.held.items c.feed_part.new.line.items)
          (append_assoc bytes done (take n rest)) (c.in-Ok.ensures.feeds start before (bytes ++ done) (so_far start before bytes s)),
    )

pub returns-in-Err-clause-feeds : goal.returns-in-Err-clause-feeds
returns-in-Err-clause-feeds g c = λ start before bytes s.
    let (done, split, most, so_far) = c.loop-rest.invariant in
    let rest = c.loop-rest.rest.now in
    subst (λ (xs : List ℕ). Feeds {T = Unit {0}} g.S.Responder.replies start before xs c.feed_part.new.responder
    (g.W.Write.contents c.feed_part.new.writer) c.feed_part.new.replies.held.items c.feed_part.new.line.items (Err c.in-Err.fault))
    (append_assoc bytes done rest ∙ ap (λ (xs : List ℕ). bytes ++ xs) (sym split))
    (c.in-Err.ensures.feeds start before (bytes ++ done) (so_far start before bytes s))

pub returns-clause-feeds : goal.returns-clause-feeds
returns-clause-feeds g c = λ start before bytes s.
    let (done, split, most, so_far) = c.loop-rest.invariant in
    let empty : c.loop-rest.rest.now ≡ [] = drop_all 0 c.loop-rest.rest.now (search rules) in
    subst (λ (xs : List ℕ). KeepsUp g.S.Responder.replies start before xs c.loop-rest.responder
    (g.W.Write.contents c.loop-rest.writer) c.loop-rest.replies.held.items c.loop-rest.line.items)
    (ap (λ (xs : List ℕ). bytes ++ xs) (sym (split ∙ ap (λ (l : List ℕ). done ++ l) empty ∙ append-nil done)))
    (so_far start before bytes s)

pub returns-in-Err-clause-most : goal.returns-in-Err-clause-most
returns-in-Err-clause-most g c =
    let (done, split, most, so_far) = c.loop-rest.invariant in
    c.in-Err.ensures.most ∙ most

pub returns-clause-most : goal.returns-clause-most
returns-clause-most g c =
    let (done, split, most, so_far) = c.loop-rest.invariant in
    most

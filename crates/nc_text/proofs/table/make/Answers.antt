use Rattle.std.proofs.Common.{◌<◌, ◌+◌, length, List, None, not, inl, inr, arith, ap, sym, subst, ◌∙◌}
use Rattle.std.specs.Option.{is_some}
use Rattle.std.proofs.lemmas.List.{get_or_default}
use Rattle.nc_text.specs.machinery.Pages.{Slot}
use Rattle.nc_text.proofs.Tables.{IsMaking, making_made, making_more, none_if_unmade}
use Rattle.nc_text.proofs.table.make.Goals.{then-missing+in-Ok+in-Some-1, then-missing+in-Ok+in-None-1, else-missing}
use Rattle.nc_text.proofs.table.make.Goals as goal

pub loop-i-preserved : goal.loop-i-preserved
loop-i-preserved c =
    let inside : c.loop-i.i < length c.loop-i.pages = omega (arith, c.loop-i.auto.pages) in
    let same = ap is_some (get_or_default c.loop-i.pages c.loop-i.i None c.index-pages-i.result inside) ∙ c.is_none-missing.ensures in
    elim c.if-missing.branch [
      | then-missing+in-Ok+in-Some-1 w ↦
          subst (λ (ps : List Slot). IsMaking c.args.pages.now ps c.args.first (c.loop-i.i + 1)) (sym w.pages-is)
          (making_more c.args.pages.now c.loop-i.pages c.args.first c.loop-i.i w.in-Ok.page c.loop-i.invariant (omega arith) inside
          (none_if_unmade _ (same ∙ ap not w.if-missing.true)) w.in-Ok.ensures.bytes w.in-Ok.ensures.marks)
      | then-missing+in-Ok+in-None-1 w ↦
          subst (λ (ps : List Slot). IsMaking c.args.pages.now ps c.args.first (c.loop-i.i + 1)) (sym w.pages-is)
          (making_more c.args.pages.now c.loop-i.pages c.args.first c.loop-i.i w.in-Ok.page c.loop-i.invariant (omega arith) inside
          (none_if_unmade _ (same ∙ ap not w.if-missing.true)) w.in-Ok.ensures.bytes w.in-Ok.ensures.marks)
      | else-missing w ↦
          subst (λ (ps : List Slot). IsMaking c.args.pages.now ps c.args.first (c.loop-i.i + 1)) (sym w.pages-is)
          (making_made c.args.pages.now c.loop-i.pages c.args.first c.loop-i.i c.loop-i.invariant (same ∙ ap not w.if-missing.false))
    ]

pub returns-clause-needed : goal.returns-clause-needed
returns-clause-needed c = λ j made. elim (c.loop-i.invariant.needed j made) [ inl was ↦ inl was | inr r ↦ inr (r.0, omega (arith, r.1)) ]

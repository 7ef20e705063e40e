use Rattle.std.proofs.Common.{◌/◌, ◌%◌, ◌<◌, length, arith, ap, ◌∙◌, inl, inr}
use Rattle.std.proofs.lemmas.List.{get_or_default}
use Rattle.nc_text.specs.declared.masks.Masks.{Masks}
use Rattle.nc_text.specs.machinery.Masks.{mark_in, unused_masks}
use Rattle.nc_text.proofs.Tables.{one_bundle, in_bundle}
use Rattle.nc_text.proofs.page.Page.set_marks.Goals as goal

pub returns-clause-within : goal.returns-clause-within
returns-clause-within c =
    let all = c.args.self.now.masks in
    let inside : c.args.at / 32 < length all = omega arith in
    λ k lt. in_bundle all c.set_from.new.self c.args.at k inside (omega arith) ∙ c.set_from.ensures.within k lt

pub returns-clause-others : goal.returns-clause-others
returns-clause-others c =
    let all = c.args.self.now.masks in
    let inside : c.args.at / 32 < length all = omega arith in
    λ k out. one_bundle all (c.args.at / 32) c.set_from.new.self k inside (λ same.
    c.set_from.ensures.others (k % 32) (omega arith) (elim out
    [ inl low ↦ inl (omega (arith, same)) | inr high ↦ inr (omega (arith, same)) ])
    ∙ ap (λ (m : Masks). mark_in m (k % 32)) (get_or_default all (c.args.at / 32) _ unused_masks inside))

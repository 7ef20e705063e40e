use Rattle.std.proofs.Common.{◌≡◌, ℕ, ◌+◌, ◌/◌, ◌%◌, ◌<◌, length, arith, ap, ◌∙◌, inl, inr}
use Rattle.std.proofs.lemmas.List.{get_or_default}
use Rattle.nc_text.specs.declared.masks.Masks.{Masks}
use Rattle.nc_text.specs.machinery.Masks.{mark_in, unused_masks}
use Rattle.nc_text.specs.MarkedText.{unused_mark}
use Rattle.nc_text.proofs.Tables.{one_bundle, in_bundle, unused_mark_in}
use Rattle.nc_text.proofs.page.Page.unmark_part.Goals as goal

pub returns-clause-within : goal.returns-clause-within
returns-clause-within c =
    let all = c.args.self.now.masks in
    let inside : c.args.at / 32 < length all = omega arith in
    λ k lt.
    let place : c.args.at % 32 + k ≡ (c.args.at + k) % 32 = omega arith in
    in_bundle all c.unmark.new.self c.args.at k inside (omega arith)
    ∙ (c.unmark.ensures.within k lt ∙ (ap (λ (j : ℕ). unused_mark j) place ∙ unused_mark_in (c.args.at + k)))

pub returns-clause-others : goal.returns-clause-others
returns-clause-others c =
    let all = c.args.self.now.masks in
    let inside : c.args.at / 32 < length all = omega arith in
    λ k out. one_bundle all (c.args.at / 32) c.unmark.new.self k inside (λ same.
    c.unmark.ensures.others (k % 32) (omega arith) (elim out [ inl low ↦ inl (omega (arith, same)) | inr high ↦ inr (omega (arith, same)) ])
    ∙ ap (λ (m : Masks). mark_in m (k % 32)) (get_or_default all (c.args.at / 32) _ unused_masks inside))

use Rattle.std.proofs.Common.{ℕ, ◌+◌, ◌/◌, ◌%◌, ◌<◌, length, arith, ap, ◌∙◌, inl, inr}
use Rattle.nc_text.specs.machinery.Masks.{mark_in}
use Rattle.nc_text.proofs.Tables.{one_bundle, in_bundle}
use Rattle.nc_text.proofs.page.Page.set_bundle.Goals as goal

pub returns-clause-within : goal.returns-clause-within
returns-clause-within c =
    let all = c.args.self.now.masks in
    let inside : c.args.at / 32 < length all = omega arith in
    λ k lt. in_bundle all c.args.masks c.args.at k inside (omega (arith, c.requires.start))
    ∙ ap (λ (j : ℕ). mark_in c.args.masks j) {x = c.args.at % 32 + k} {y = k} (omega (arith, c.requires.start))

pub returns-clause-others : goal.returns-clause-others
returns-clause-others c =
    let all = c.args.self.now.masks in
    let inside : c.args.at / 32 < length all = omega arith in
    λ k out. one_bundle all (c.args.at / 32) c.args.masks k inside (λ same. absurd (elim out
    [ inl low ↦ omega (arith, same, c.requires.start) | inr high ↦ omega (arith, same, c.requires.start) ]))

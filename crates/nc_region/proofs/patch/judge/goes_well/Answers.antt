use Rattle.std.proofs.Common.{◌≡◌, ℕ, true, false, sym, subst, ◌∙◌, refl}
use Rattle.nc_vet.specs.Chunk.{IsTarget}
use Rattle.nc_text.specs.Places.{limit_of}
use Rattle.nc_region.proofs.patch.judge.goes_well.Goals as goal

pub returns-then-not-is_direct : goal.returns-then-not-is_direct
returns-then-not-is_direct g c = record {
  exact = λ h. (
    λ yes direct. absurd (let differ : true ≡ false = sym direct ∙ (sym c.is_direct.ensures ∙ c.if-not-is_direct.true) in cc),
    λ goes. refl,
  );
}

pub returns : goal.returns
returns g c = record {
  exact = λ h.
      let good = c.is_good.ensures.exact h in (
        λ yes direct. subst (λ (to : ℕ). IsTarget c.args.chunk.base (limit_of (g.A.Acts.marked c.args.acts.now).bytes) h.valid.pieces to)
            c.target.ensures (good.0 yes),
        λ goes. good.1
            (subst (λ (to : ℕ). IsTarget c.args.chunk.base (limit_of (g.A.Acts.marked c.args.acts.now).bytes) h.valid.pieces to)
            (sym c.target.ensures) (goes (sym c.is_direct.ensures ∙ c.if-not-is_direct.false))),
      );
}

use Rattle.std.proofs.Common.{◌≡◌, ℕ, ◌+◌, true, false, ◌∷◌, length, None, eqb-true, refl, sym, subst, ◌∙◌, ap, arith}
use Rattle.std.specs.Prelude.{IsTrue}
use Rattle.std.proofs.lemmas.Bool.{eqb-false}
use Rattle.std.specs.Result.{result_ok}
use Rattle.nc_decode.specs.declared.instruction.Instr.{Instr}
use Rattle.nc_decode.specs.Front.{first_instruction}
use Rattle.nc_decode.specs.Transfers.{is_direct, target}
use Rattle.nc_vet.specs.Chunk.{IsTarget}
use Rattle.nc_text.specs.Places.{limit_of}
use Rattle.nc_region.specs.Patch.{GoWell}
use Rattle.nc_region.proofs.patching.NewInstructions.{none_of_none, not_found, parted}
use Rattle.nc_region.proofs.patch.judge.+keeps_targets.Goals as goal

pub returns-then-is_empty : goal.returns-then-is_empty
returns-then-is_empty g t c = record {
  exact = λ h news b. (
    λ true. subst (GoWell (IsTarget c.args.chunk.base (limit_of (g.A.Acts.marked c.args.acts.now).bytes) h.valid.pieces) c.args.at)
        (sym (none_of_none c.args.new.now news (eqb-true _ _ (sym c.is_empty.ensures ∙ c.if-is_empty.true)) b)) tt,
    λ w. refl,
  );
}

pub returns-in_default : goal.returns-in_default
returns-in_default g t c = record {
  exact = λ h news b.
      let none : first_instruction c.args.new.now ≡ None = sym c.decode.ensures.first ∙ ap result_ok c.in_default.is in
      let some = eqb-false (length c.args.new.now) 0 (sym c.is_empty.ensures ∙ c.if-is_empty.false) in
      absurd (not_found c.args.new.now (omega (arith, some)) none news b);
}

pub returns-then-not-goes_well : goal.returns-then-not-goes_well
returns-then-not-goes_well g t c = record {
  exact = λ h news b.
      let is = sym c.decode.ensures.first ∙ ap result_ok c.in-Ok.is in
      let p = parted c.args.new.now news c.in-Ok.instr b is in (
        λ true. absurd cc,
        λ w.
            let both : GoWell (IsTarget c.args.chunk.base (limit_of (g.A.Acts.marked c.args.acts.now).bytes) h.valid.pieces) c.args.at
            (p.first ∷ p.rest) = subst
            (GoWell (IsTarget c.args.chunk.base
            (limit_of (g.A.Acts.marked c.args.acts.now).bytes) h.valid.pieces) c.args.at) p.is w in
            let well = subst (λ (i : Instr). IsTrue (is_direct i.flow)
            → IsTarget c.args.chunk.base (limit_of (g.A.Acts.marked c.args.acts.now).bytes) h.valid.pieces
            (target i c.args.at)) p.instr both.0 in
            let yes : c.goes_well.result ≡ true = (c.goes_well.ensures.exact h).1 well in
            let differ : true ≡ false = sym yes ∙ c.if-not-goes_well.true in
            absurd cc,
      );
}

pub returns : goal.returns
returns g t c = record {
  exact = λ h news b.
      let is = sym c.decode.ensures.first ∙ ap result_ok c.in-Ok.is in
      let p = parted c.args.new.now news c.in-Ok.instr b is in
      let len : c.from.result ≡ length p.first.bytes = c.from.ensures ∙ p.len in
      let inner = c.keeps_targets.ensures.exact h p.rest p.behind in
      let yes : c.goes_well.result ≡ true = c.if-not-goes_well.false in
      let well = subst (λ (i : Instr). IsTrue (is_direct i.flow)
      → IsTarget c.args.chunk.base (limit_of (g.A.Acts.marked c.args.acts.now).bytes) h.valid.pieces (target i c.args.at))
      (sym p.instr) ((c.goes_well.ensures.exact h).0 yes) in (
        λ true.
            subst (GoWell (IsTarget c.args.chunk.base (limit_of (g.A.Acts.marked c.args.acts.now).bytes) h.valid.pieces) c.args.at)
            (sym p.is) (
              well,
              subst (λ (k : ℕ). GoWell (IsTarget c.args.chunk.base (limit_of (g.A.Acts.marked c.args.acts.now).bytes) h.valid.pieces)
                  (c.args.at + k) p.rest) len (inner.0 true),
            ),
        λ w.
            let both : GoWell (IsTarget c.args.chunk.base (limit_of (g.A.Acts.marked c.args.acts.now).bytes) h.valid.pieces) c.args.at
            (p.first ∷ p.rest) = subst
            (GoWell (IsTarget c.args.chunk.base
            (limit_of (g.A.Acts.marked c.args.acts.now).bytes) h.valid.pieces) c.args.at) p.is w in
            inner.1 (subst (λ (k : ℕ). GoWell
            (IsTarget c.args.chunk.base (limit_of (g.A.Acts.marked c.args.acts.now).bytes) h.valid.pieces) (c.args.at + k) p.rest)
            (sym len) both.1),
      );
}

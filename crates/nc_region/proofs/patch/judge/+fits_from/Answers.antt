use Rattle.std.proofs.Common.{◌≡◌, ℕ, ◌+◌, ◌-◌, ◌≤◌, length, take, drop, None, eqb-true, refl, sym, ◌∙◌, ap, arith, rules}
use Rattle.std.proofs.lemmas.Bool.{eqb-false}
use Rattle.std.proofs.lemmas.List.{length-take, length-drop}
use Rattle.std.specs.Result.{result_ok}
use Rattle.nc_decode.specs.Front.{first_instruction}
use Rattle.nc_region.specs.machinery.PatchSteps.{Begins}
use Rattle.nc_region.proofs.patching.NewInstructions.{none_of_none, not_found, parted}
use Rattle.nc_region.proofs.patching.Standing.{standing, next_begins, runs_from, runs_to, runs_none}
use Rattle.nc_region.proofs.patch.judge.+fits_from.Goals as goal

pub returns-then-is_empty : goal.returns-then-is_empty
returns-then-is_empty g t c = record {
  exact = λ b news bytes. (
    λ true. runs_none b.rest news
        (none_of_none c.args.new.now news (eqb-true _ _ (sym c.is_empty.ensures ∙ c.if-is_empty.true)) bytes),
    λ runs. refl,
  );
}

pub returns-in_default : goal.returns-in_default
returns-in_default g t c = record {
  exact = λ b news bytes.
      let none : first_instruction c.args.new.now ≡ None = sym c.decode.ensures.first ∙ ap result_ok c.in_default.is in
      let some = eqb-false (length c.args.new.now) 0 (sym c.is_empty.ensures ∙ c.if-is_empty.false) in
      absurd (not_found c.args.new.now (omega (arith, some)) none news bytes);
}

pub returns-then-length_at-len : goal.returns-then-length_at-len
returns-then-length_at-len g t c = record {
  exact = λ b news bytes.
      let marked = g.A.Acts.marked c.args.acts.now in
      let some = eqb-false (length c.args.new.now) 0 (sym c.is_empty.ensures ∙ c.if-is_empty.false) in
      let is = sym c.decode.ensures.first ∙ ap result_ok c.in-Ok.is in
      let p = parted c.args.new.now news c.in-Ok.instr bytes is in
      let s = standing marked c.args.chunk c.args.at c.requires.whole b (omega (arith, some, c.requires.ends)) in
      let same : c.length_at.result ≡ s.piece.instr.len = c.length_at.ensures s.piece.instr s.instr in (
        λ true. absurd cc,
        λ runs.
            let r = runs_to b.rest news s.piece p.first s.rest p.rest s.is p.is runs in
            absurd (c.if-length_at-len.true (same ∙ (s.len ∙ (r.0 ∙ (sym p.len ∙ sym c.from-len.ensures))))),
      );
}

pub fits_from-requires : goal.fits_from-requires
fits_from-requires g t c =
    let marked = g.A.Acts.marked c.args.acts.now in
    let some = eqb-false (length c.args.new.now) 0 (sym c.is_empty.ensures ∙ c.if-is_empty.false) in
    let b = c.requires.begins in
    let s = standing marked c.args.chunk c.args.at c.requires.whole b (omega (arith, some, c.requires.ends)) in
    let same : c.length_at.result ≡ s.piece.instr.len = c.length_at.ensures s.piece.instr s.instr in
    let nb : Begins (g.A.Acts.marked c.args.acts.now) c.args.chunk (c.args.at + c.from-len.result) =
    next_begins marked c.args.chunk c.args.at b s c.from-len.result (sym c.if-length_at-len.false ∙ same) in
    let ends : c.args.at + c.from-len.result + length (take (length c.args.new.now - c.in-Ok.instr.len) (drop c.in-Ok.instr.len c.args.new.now))
    ≤ c.args.chunk.base + c.args.chunk.length =
    omega (arith, c.requires.ends, c.from-len.ensures, c.in-Ok.ensures.sized, length-take {A = ℕ}, length-drop {A = ℕ}) in
    λ κs lives. (search rules, (search rules, (c.requires.whole, (nb, ends))))

pub returns : goal.returns
returns g t c = record {
  exact = λ b news bytes.
      let marked = g.A.Acts.marked c.args.acts.now in
      let some = eqb-false (length c.args.new.now) 0 (sym c.is_empty.ensures ∙ c.if-is_empty.false) in
      let is = sym c.decode.ensures.first ∙ ap result_ok c.in-Ok.is in
      let p = parted c.args.new.now news c.in-Ok.instr bytes is in
      let s = standing marked c.args.chunk c.args.at c.requires.whole b (omega (arith, some, c.requires.ends)) in
      let same : c.length_at.result ≡ s.piece.instr.len = c.length_at.ensures s.piece.instr s.instr in
      let len : length s.piece.bytes ≡ length p.first.bytes = sym s.len
      ∙ (sym same ∙ (c.if-length_at-len.false ∙ (c.from-len.ensures ∙ p.len))) in
      let nb = next_begins marked c.args.chunk c.args.at b s c.from-len.result (sym c.if-length_at-len.false ∙ same) in
      let inner = c.fits_from.ensures.exact nb p.rest p.behind in (
        λ true. runs_from b.rest news s.piece p.first s.rest p.rest s.is p.is len (inner.0 true),
        λ runs. inner.1 (runs_to b.rest news s.piece p.first s.rest p.rest s.is p.is runs).1,
      );
}

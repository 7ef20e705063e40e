use Rattle.std.proofs.Common.{◌≡◌, ℕ, ◌+◌, ◌-◌, ◌≤◌, true, false, List, length, take, drop, None, eqb-true, sym, subst}
use Rattle.std.proofs.Common.{◌∙◌, ap, arith, rules, refl}
use Rattle.std.proofs.lemmas.Bool.{eqb-false}
use Rattle.std.proofs.lemmas.List.{length-take, length-drop}
use Rattle.std.specs.Result.{result_ok}
use Rattle.nc_decode.specs.Front.{first_instruction}
use Rattle.nc_region.specs.Patch.{SparesPair}
use Rattle.nc_region.specs.machinery.PatchSteps.{Along}
use Rattle.nc_region.proofs.patching.NewInstructions.{none_of_none, not_found, parted}
use Rattle.nc_region.proofs.patching.Standing.{standing, next_begins, runs_to}
use Rattle.nc_region.proofs.patching.Sparing.{spares_none, spares_from, spares_to, same_piece}
use Rattle.nc_region.proofs.patch.judge.+leaves_pairs.Goals as goal

pub returns-then-is_empty : goal.returns-then-is_empty
returns-then-is_empty g t c = record {
  exact = λ b news bytes runs.
      let none = none_of_none c.args.new.now news (eqb-true _ _ (sym c.is_empty.ensures ∙ c.if-is_empty.true)) bytes in
      (λ true. spares_none b.rest news none, λ spares. refl);
}

pub returns-in_default : goal.returns-in_default
returns-in_default g t c = record {
  exact = λ b news bytes runs.
      let none : first_instruction c.args.new.now ≡ None = sym c.decode.ensures.first ∙ ap result_ok c.in_default.is in
      let some = eqb-false (length c.args.new.now) 0 (sym c.is_empty.ensures ∙ c.if-is_empty.false) in
      absurd (not_found c.args.new.now (omega (arith, some)) none news bytes);
}

pub spares_pair-requires : goal.spares_pair-requires
spares_pair-requires g t c =
    let a = c.requires.along in
    let is = sym c.decode.ensures.first ∙ ap result_ok c.in-Ok.is in
    let p = parted c.args.new.now a.news c.in-Ok.instr a.bytes is in
    let front : length (take c.in-Ok.instr.len c.args.new.now) ≡ length p.first.bytes = ap (λ (z : List ℕ). length z) p.front in
    record {
      whole = c.requires.whole;
      begins = a.begins;
      some = omega (arith, front, p.len, p.some);
      ends = omega (arith, front, p.long, c.requires.ends);
      sized = p.len ∙ sym front;
    }

pub returns-then-not-spares_pair : goal.returns-then-not-spares_pair
returns-then-not-spares_pair g t c = record {
  exact = λ b news bytes runs.
      let some = eqb-false (length c.args.new.now) 0 (sym c.is_empty.ensures ∙ c.if-is_empty.false) in
      let is = sym c.decode.ensures.first ∙ ap result_ok c.in-Ok.is in
      let p = parted c.args.new.now news c.in-Ok.instr bytes is in
      let s = standing (g.A.Acts.marked c.args.acts.now) c.args.chunk c.args.at c.requires.whole b
      (omega (arith, some, c.requires.ends)) in
      let r = runs_to b.rest news s.piece p.first s.rest p.rest s.is p.is runs in
      let one = c.spares_pair.ensures.exact b s.piece s.rest s.is (r.0 ∙ ap (λ (z : List ℕ). length z) (sym p.front)) in (
        λ yes. absurd (let differ : true ≡ false = sym yes in cc),
        λ spares.
            let first = (spares_to b.rest news s.piece p.first s.rest p.rest s.is p.is spares).0 in
            let kept : c.spares_pair.result ≡ true =
            one.1 (subst (SparesPair s.piece s.rest) (same_piece p.first (take c.in-Ok.instr.len c.args.new.now) c.in-Ok.instr
            (sym p.front) p.instr) first) in
            let differ : true ≡ false = sym kept ∙ c.if-not-spares_pair.true in
            absurd cc,
      );
}

pub leaves_pairs-requires : goal.leaves_pairs-requires
leaves_pairs-requires g t c =
    let marked = g.A.Acts.marked c.args.acts.now in
    let a = c.requires.along in
    let some = eqb-false (length c.args.new.now) 0 (sym c.is_empty.ensures ∙ c.if-is_empty.false) in
    let is = sym c.decode.ensures.first ∙ ap result_ok c.in-Ok.is in
    let p = parted c.args.new.now a.news c.in-Ok.instr a.bytes is in
    let s = standing marked c.args.chunk c.args.at c.requires.whole a.begins (omega (arith, some, c.requires.ends)) in
    let r = runs_to a.begins.rest a.news s.piece p.first s.rest p.rest s.is p.is a.runs in
    let next : Along (g.A.Acts.marked c.args.acts.now) c.args.chunk (c.args.at + c.from.result)
    (take (length c.args.new.now - c.in-Ok.instr.len) (drop c.in-Ok.instr.len c.args.new.now)) =
    record {
      begins = next_begins marked c.args.chunk c.args.at a.begins s c.from.result (c.from.ensures
          ∙ (p.len ∙ (sym r.0 ∙ sym s.len)));
      news = p.rest;
      bytes = p.behind;
      runs = r.1;
    } in
    let ends : c.args.at + c.from.result + length (take (length c.args.new.now - c.in-Ok.instr.len) (drop c.in-Ok.instr.len c.args.new.now))
    ≤ c.args.chunk.base + c.args.chunk.length =
    omega (arith, c.requires.ends, c.from.ensures, p.len, p.long, length-take {A = ℕ}, length-drop {A = ℕ}) in
    λ κs lives. (search rules, (search rules, (c.requires.whole, (next, ends))))

pub returns : goal.returns
returns g t c = record {
  exact = λ b news bytes runs.
      let marked = g.A.Acts.marked c.args.acts.now in
      let some = eqb-false (length c.args.new.now) 0 (sym c.is_empty.ensures ∙ c.if-is_empty.false) in
      let is = sym c.decode.ensures.first ∙ ap result_ok c.in-Ok.is in
      let p = parted c.args.new.now news c.in-Ok.instr bytes is in
      let s = standing marked c.args.chunk c.args.at c.requires.whole b (omega (arith, some, c.requires.ends)) in
      let r = runs_to b.rest news s.piece p.first s.rest p.rest s.is p.is runs in
      let one = c.spares_pair.ensures.exact b s.piece s.rest s.is (r.0 ∙ ap (λ (z : List ℕ). length z) (sym p.front)) in
      let kept : c.spares_pair.result ≡ true = c.if-not-spares_pair.false in
      let first = subst (SparesPair s.piece s.rest) (sym (same_piece p.first (take c.in-Ok.instr.len c.args.new.now) c.in-Ok.instr
      (sym p.front) p.instr)) (one.0 kept) in
      let nb = next_begins marked c.args.chunk c.args.at b s c.from.result (c.from.ensures ∙ (p.len ∙ (sym r.0 ∙ sym s.len))) in
      let inner = c.leaves_pairs.ensures.exact nb p.rest p.behind r.1 in (
        λ yes. spares_from b.rest news s.piece p.first s.rest p.rest s.is p.is first (inner.0 yes),
        λ spares. inner.1 (spares_to b.rest news s.piece p.first s.rest p.rest s.is p.is spares).1,
      );
}

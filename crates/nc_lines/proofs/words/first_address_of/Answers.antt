use Rattle.std.proofs.Common.{ℕ, List, Some, ap, sym, ◌∙◌, arith}
use Rattle.std.proofs.lemmas.Grind.{common_steps}
use Rattle.std.proofs.lemmas.List.{take_rest}
use Rattle.nc_lines.specs.Lines.{words_in}
use Rattle.nc_lines.proofs.FirstWords.{first_short_none, first_long_none, first_whole, first_part}
use Rattle.nc_lines.proofs.words.first_address_of.Goals as goal

pub returns-in-Some-clause-value : goal.returns-in-Some-clause-value
returns-in-Some-clause-value c = sym (first_whole c.args.text.now c.in-Some.at (sym c.in-Some.ensures))

pub returns-in-None-clause-value : goal.returns-in-None-clause-value
returns-in-None-clause-value c = sym (first_short_none c.args.text.now (omega arith) (sym c.in-None.ensures))

pub returns-then-text-ne32-clause-value : goal.returns-then-text-ne32-clause-value
returns-then-text-ne32-clause-value c = sym (first_long_none c.args.text.now (omega arith) c.if-text-ne32.true)

pub returns-in-Some-address_of-clause-value : goal.returns-in-Some-address_of-clause-value
returns-in-Some-address_of-clause-value c =
    let text = c.args.text.now in
    let at = c.in-Some-address_of.at in
    ap (λ (rest : List ℕ). Some (at, words_in rest)) (take_rest text 9)
    ∙ sym (first_part text at (omega arith) c.if-text-ne32.false (sym c.in-Some-address_of.ensures))

pub returns-in-None-address_of-clause-value : goal.returns-in-None-address_of-clause-value
returns-in-None-address_of-clause-value c = grind (arith, common_steps)

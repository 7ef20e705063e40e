use Rattle.std.proofs.Common.{◌≡◌, None, length, eqb-true, refl, sym, ◌∙◌, ap, arith}
use Rattle.std.proofs.lemmas.Bool.{eqb-false}
use Rattle.std.specs.Result.{result_ok}
use Rattle.nc_decode.specs.Front.{first_instruction}
use Rattle.nc_region.proofs.patching.NewInstructions.{instructions_none, not_found, one_more, rest_are}
use Rattle.nc_region.proofs.patch.judge.+are_instructions.Goals as goal

pub returns-then-is_empty : goal.returns-then-is_empty
returns-then-is_empty t c = (
  λ true. instructions_none c.args.bytes.now
      (eqb-true (length c.args.bytes.now) 0 (sym c.is_empty.ensures ∙ c.if-is_empty.true)),
  λ all. refl,
)

pub returns-in_default : goal.returns-in_default
returns-in_default t c = (
  λ true. absurd cc,
  λ all.
      let none : first_instruction c.args.bytes.now ≡ None = sym c.decode.ensures.first ∙ ap result_ok c.in_default.is in
      let some = eqb-false (length c.args.bytes.now) 0 (sym c.is_empty.ensures ∙ c.if-is_empty.false) in
      absurd (not_found c.args.bytes.now (omega (arith, some)) none all.0 all.1),
)

pub returns : goal.returns
returns t c =
    let is = sym c.decode.ensures.first ∙ ap result_ok c.in-Ok.is in (
      λ true. one_more c.args.bytes.now c.in-Ok.instr is (c.are_instructions.ensures.0 true),
      λ all. c.are_instructions.ensures.1 (rest_are c.args.bytes.now c.in-Ok.instr is all),
    )

use Rattle.std.proofs.Common.{◌≡◌, Ok, Err, arith, inl, inr, sym, ap, subst, ◌∙◌}
use Rattle.nc_decode.specs.declared.instruction.DecodeFault.{DecodeFault}
use Rattle.nc_host.specs.declared.lent_results.NcInstruction.{NcInstruction}
use Rattle.nc_host.specs.Shown.{instruction_of}
use Rattle.nc_host.proofs.Reading.{same_instr, same_ok, none_read, not_both, one_fault, one_number}
use Rattle.nc_host.proofs.lent_decode.nc_host_decode.Goals as goal

pub returns-in-Ok-clause-found : goal.returns-in-Ok-clause-found
returns-in-Ok-clause-found c = λ i. (
  λ e. (c.decode.ensures.found i).0 (c.in-Ok.is ∙ ap (λ z. Ok z) (same_instr c.in-Ok.instr i (sym c.instruction_of.ensures ∙ e))),
  λ f. c.instruction_of.ensures ∙ ap instruction_of (same_ok c.in-Ok.instr i (sym c.in-Ok.is ∙ (c.decode.ensures.found i).1 f)),
)

pub returns-in-Ok-clause-cut_short : goal.returns-in-Ok-clause-cut_short
returns-in-Ok-clause-cut_short c = (
  λ e. absurd (none_read 10 c.in-Ok.instr (omega arith) (sym e ∙ c.instruction_of.ensures)),
  λ f. absurd (not_both c.decode.result _ c.in-Ok.instr (c.decode.ensures.truncated.1 f) c.in-Ok.is),
)

pub returns-in-Ok-clause-not_permitted : goal.returns-in-Ok-clause-not_permitted
returns-in-Ok-clause-not_permitted c = (
  λ e. absurd (none_read 4 c.in-Ok.instr (omega arith) (sym e ∙ c.instruction_of.ensures)),
  λ f. absurd (f.0 c.in-Ok.instr ((c.decode.ensures.found c.in-Ok.instr).0 c.in-Ok.is)),
)

pub returns-in-Ok-clause-faults : goal.returns-in-Ok-clause-faults
returns-in-Ok-clause-faults c = inl (ap (λ (n : NcInstruction). n.fault) c.instruction_of.ensures)

pub returns-in-Err-Truncated-clause-found : goal.returns-in-Err-Truncated-clause-found
returns-in-Err-Truncated-clause-found c = λ i. (
  λ e. absurd (none_read 10 i (omega arith) (sym c.no_instruction.ensures ∙ e)),
  λ f. absurd (not_both c.decode.result _ i c.in-Err-Truncated.is ((c.decode.ensures.found i).1 f)),
)

pub returns-in-Err-Truncated-clause-cut_short : goal.returns-in-Err-Truncated-clause-cut_short
returns-in-Err-Truncated-clause-cut_short c =
    let is = subst (λ (f : DecodeFault). c.decode.result ≡ Err f) c.in-Err-Truncated.field-0-is c.in-Err-Truncated.is in
    (λ e. c.decode.ensures.truncated.0 is, λ f. c.no_instruction.ensures)

pub returns-in-Err-Truncated-clause-not_permitted : goal.returns-in-Err-Truncated-clause-not_permitted
returns-in-Err-Truncated-clause-not_permitted c =
    let is = subst (λ (f : DecodeFault). c.decode.result ≡ Err f) c.in-Err-Truncated.field-0-is c.in-Err-Truncated.is in
    (λ e. absurd (omega (arith, one_number 10 4 (sym c.no_instruction.ensures ∙ e))), λ f. absurd (f.1 (c.decode.ensures.truncated.0 is)))

pub returns-in-Err-Truncated-clause-faults : goal.returns-in-Err-Truncated-clause-faults
returns-in-Err-Truncated-clause-faults c = inr (inl c.no_instruction.ensures)

pub returns-in-Err-NotPermitted-clause-found : goal.returns-in-Err-NotPermitted-clause-found
returns-in-Err-NotPermitted-clause-found c = λ i. (
  λ e. absurd (none_read 4 i (omega arith) (sym c.no_instruction-in-Err-NotPermitted.ensures ∙ e)),
  λ f. absurd (not_both c.decode.result _ i c.in-Err-NotPermitted.is ((c.decode.ensures.found i).1 f)),
)

pub returns-in-Err-NotPermitted-clause-cut_short : goal.returns-in-Err-NotPermitted-clause-cut_short
returns-in-Err-NotPermitted-clause-cut_short c =
    let is = subst (λ (f : DecodeFault). c.decode.result ≡ Err f) c.in-Err-NotPermitted.field-0-is c.in-Err-NotPermitted.is in (
      λ e. absurd (omega (arith, one_number 4 10 (sym c.no_instruction-in-Err-NotPermitted.ensures ∙ e))),
      λ f. absurd (one_fault c.decode.result (c.decode.ensures.truncated.1 f) is),
    )

pub returns-in-Err-NotPermitted-clause-not_permitted : goal.returns-in-Err-NotPermitted-clause-not_permitted
returns-in-Err-NotPermitted-clause-not_permitted c =
    let is = subst (λ (f : DecodeFault). c.decode.result ≡ Err f) c.in-Err-NotPermitted.field-0-is c.in-Err-NotPermitted.is in
    (λ e. c.decode.ensures.refused.0 is, λ f. c.no_instruction-in-Err-NotPermitted.ensures)

pub returns-in-Err-NotPermitted-clause-faults : goal.returns-in-Err-NotPermitted-clause-faults
returns-in-Err-NotPermitted-clause-faults c = inr (inr c.no_instruction-in-Err-NotPermitted.ensures)

use Rattle.std.proofs.Common.{◌≡◌, ◌≤◌, length, Option, None, refl, sym, ap, ◌∙◌, arith}
use Rattle.std.specs.Result.{result_ok}
use Rattle.std.proofs.lemmas.Option.{IfSome_then}
use Rattle.nc_decode.specs.declared.instruction.Instr.{Instr}
use Rattle.nc_decode.specs.Front.{first_instruction}
use Rattle.nc_reading.specs.Lengths.{known_length}
use Rattle.nc_reading.specs.Reading.{extent_by}
use Rattle.nc_reading.proofs.ReadSteps.{extent_of}
use Rattle.nc_reading.proofs.steps.extent.Goals as goal

pub returns-in-Ok-clause-value : goal.returns-in-Ok-clause-value
returns-in-Ok-clause-value c = sym (extent_of c.args.rest.now c.in-Ok.instr _ ((c.in-Ok.ensures.found c.in-Ok.instr).0 refl) c.from.ensures)

pub returns-in-Err-clause-value : goal.returns-in-Err-clause-value
returns-in-Err-clause-value c =
    let rest = c.args.rest.now in
    let first : first_instruction rest ≡ None = sym c.decode.ensures.first ∙ ap result_ok c.in-Err.is in
    c.known_len.ensures.value ∙ ap (λ (o : Option Instr). extent_by o (known_length rest)) (sym first)

pub returns-in-Ok-clause-within : goal.returns-in-Ok-clause-within
returns-in-Ok-clause-within c =
    let (some, fits) = c.in-Ok.ensures.sized in
    (omega (arith, some, c.from.ensures), omega (arith, fits, c.from.ensures))

pub returns-in-Err-clause-within : goal.returns-in-Err-clause-within
returns-in-Err-clause-within c =
    IfSome_then _ {Q = λ n. (1 ≤ n) × (n ≤ length c.args.rest.now)} c.known_len.ensures.within (λ n h. (h.0, h.2))

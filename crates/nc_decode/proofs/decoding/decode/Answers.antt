use Rattle.std.proofs.Common.{◌∙◌, sym, arith, ap}
use Rattle.std.specs.Result.{result_ok}
use Rattle.std.specs.Prelude.{Result}
use Rattle.nc_decode.specs.declared.instruction.DecodeFault.{DecodeFault}
use Rattle.nc_decode.specs.declared.instruction.Instr.{Instr}
use Rattle.nc_decode.proofs.reading.Readings.{found_from, found_by, reading_front, front_read, refused_from, refused_by, result_sized}
use Rattle.nc_decode.proofs.fronts.NeverBarred.{spelling_is_allowed}
use Rattle.nc_decode.proofs.fronts.FrontLaws.{first_read}
use Rattle.nc_decode.proofs.decoding.decode.Goals as goal

pub returns-clause-found : goal.returns-clause-found
returns-clause-found c = λ i. (
  λ h. found_from c.args.bytes.now i (λ k. omega (arith, c.type_inv.bytes k)) (sym c.read.ensures ∙ h),
  λ f. c.read.ensures ∙ found_by c.args.bytes.now i f,
)

pub returns-clause-truncated : goal.returns-clause-truncated
returns-clause-truncated c = (
  λ h. reading_front c.args.bytes.now (λ k. omega (arith, c.type_inv.bytes k)) (sym c.read.ensures ∙ h),
  λ f. c.read.ensures ∙ front_read c.args.bytes.now f,
)

pub returns-clause-refused : goal.returns-clause-refused
returns-clause-refused c = (
  λ h. refused_from c.args.bytes.now (sym c.read.ensures ∙ h),
  λ f. c.read.ensures
      ∙ refused_by c.args.bytes.now (λ k. omega (arith, c.type_inv.bytes k)) f,
)

pub returns-clause-allowed : goal.returns-clause-allowed
returns-clause-allowed c = λ i f. spelling_is_allowed f.front i f.spells

pub returns-clause-sized : goal.returns-clause-sized
returns-clause-sized c = result_sized c.args.bytes.now c.read.result (λ k. omega (arith, c.type_inv.bytes k)) c.read.ensures

pub returns-clause-first : goal.returns-clause-first
returns-clause-first c = ap (λ (x : Result Instr DecodeFault). result_ok x) c.read.ensures
    ∙ first_read c.args.bytes.now (λ k. omega (arith, c.type_inv.bytes k))

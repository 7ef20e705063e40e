use Rattle.std.proofs.Common.{refl, arith}
use Rattle.nc_decode.specs.Spelling.{IsAtFront}
use Rattle.nc_vet.proofs.Offered.{front_cut}
use Rattle.nc_reading.proofs.ReadSteps.{extent_of}
use Rattle.nc_reading.proofs.steps.step_at.Goals as goal

pub returns-in-Ok-clause-step : goal.returns-in-Ok-clause-step
returns-in-Ok-clause-step c =
    let rest = c.args.rest.now in
    let instr = c.in-Ok.instr in
    let f : IsAtFront rest instr = (c.in-Ok.ensures.found instr).0 refl in
    record {
      finds = c.found_at.ensures _ (front_cut rest instr c.args.room f (omega arith));
      goes = rw (extent_of rest instr c.from-in-Ok.result f c.from-in-Ok.ensures) (refl, refl);
    }

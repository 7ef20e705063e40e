use Rattle.std.proofs.Common.{◌≡◌, Some, None, refl, sym, ◌∙◌}
use Rattle.nc_reading.specs.Reading.{extent}
use Rattle.nc_reading.proofs.steps.any_step.Goals as goal

pub returns-in-Some-clause-step : goal.returns-in-Some-clause-step
returns-in-Some-clause-step c =
    let known : extent c.args.rest.now ≡ Some c.in-Some.len = sym c.extent.ensures.value ∙ c.in-Some.is in
    record { finds = c.found_in-found.ensures; goes = rw known (refl, refl) }

pub returns-in-None-clause-step : goal.returns-in-None-clause-step
returns-in-None-clause-step c =
    let known : extent c.args.rest.now ≡ None = sym c.extent.ensures.value ∙ c.in-None.is in
    record { finds = c.found_in-found.ensures; goes = rw known (refl, refl) }

use Rattle.std.proofs.Common.{◌+◌, ℕ, [], refl, arith, subst}
use Rattle.nc_region.specs.Patch.{log_of_patch}
use Rattle.nc_host_acts.specs.Written.{HoldsLog, AddsEntries}
use Rattle.nc_host_handles.proofs.region_calls.report_patch.Goals as goal

pub returns : goal.returns
returns c = λ text news stand are.
    let added : AddsEntries c.args.acts.now 0 c.write_patch.new.acts c.write_patch.result (log_of_patch text c.args.at news) =
    subst (λ (k : ℕ). AddsEntries c.args.acts.now 0 c.write_patch.new.acts c.write_patch.result (log_of_patch text k news))
    {x = c.args.at + 0} {y = c.args.at} (omega arith) (c.write_patch.ensures.written text news stand are) in
    let none : HoldsLog c.args.acts.now c.args.acts.now 0 [] = record { buffer = refl; counted = refl } in
    let wrote = added c.args.acts.now [] none in
    record { lent = λ lt. (wrote.counted, wrote.buffer); not_lent = λ e. omega (arith, e, c.requires.room, c.write_patch.ensures.within) }

use Rattle.std.proofs.Common.{ap, ◌∙◌}
use Rattle.nc_gens.specs.Seen.{PassState}
use Rattle.nc_script.proofs.seating.Passes.{met_here, seated_same, seated_set, there_at}
use Rattle.nc_script.proofs.seats.meet_at.Goals as goal

pub meet-requires : goal.meet-requires
meet-requires g c =
    let there = there_at c.args.passes.now c.args.seat _ c.in-Some.pass c.requires.inside c.in-Some.is in
    (c.requires.seated c.args.seat c.in-Some.pass there).0

pub returns-in-Some-clause-seated : goal.returns-in-Some-clause-seated
returns-in-Some-clause-seated g c =
    let there = there_at c.args.passes.now c.args.seat _ c.in-Some.pass c.requires.inside c.in-Some.is in
    let seated = c.requires.seated c.args.seat c.in-Some.pass there in
    let pass = c.meet.ensures.met.pass in
    seated_set c.args.region.now.keeper.table c.args.passes.now c.args.seat c.meet.new.pass c.requires.seated
    (ap (λ (p : PassState). p.table) pass ∙ seated.0)
    (ap (λ (p : PassState). p.seat) pass ∙ seated.1)

pub returns-in-Some-clause-met : goal.returns-in-Some-clause-met
returns-in-Some-clause-met g c =
    let there = there_at c.args.passes.now c.args.seat _ c.in-Some.pass c.requires.inside c.in-Some.is in
    met_here c.args.passes.now c.args.seat _ c.in-Some.pass c.meet.new.pass c.args.region.now.keeper c.meet.new.self.keeper c.requires.inside
    c.in-Some.is (c.requires.seated c.args.seat c.in-Some.pass there).1 c.meet.ensures.met

pub returns-in_default-clause-seated : goal.returns-in_default-clause-seated
returns-in_default-clause-seated g c =
    seated_same c.args.region.now.keeper.table c.args.passes.now c.args.seat c.index-passes-seat.result c.requires.seated

use Rattle.nc_script.proofs.seating.Passes.{taken}
use Rattle.nc_script.proofs.seats.take_pass.Goals as goal

pub returns : goal.returns
returns c = taken c.args.passes.now c.args.seat c.index-passes-seat.result c.take.result c.take.new.self c.if-seat-passes.false
    c.take.ensures.value c.take.ensures.after

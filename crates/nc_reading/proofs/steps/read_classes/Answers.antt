use Rattle.std.proofs.Common.{sym, subst, arith, take_at}
use Rattle.nc_reading.specs.Reading.{HasClasses}
use Rattle.nc_reading.proofs.steps.read_classes.Goals as goal

pub returns : goal.returns
returns c =
    subst (HasClasses c.args.code.now) (sym (take_at c.fill_classes.new.classes _ c.resize.new.self.len
    (omega (arith, c.fill_classes.ensures.each)))) c.fill_classes.ensures

use Rattle.std.proofs.Common.{length, sym, subst, arith, take_all}
use Rattle.std.specs.Io.KnownBytes.{Appends}
use Rattle.std.proofs.KnownBytes.{Appends-kept}
use Rattle.nc_report.proofs.source_report.write_last.Goals as goal

pub returns-in-Ok-flush-clause-ok : goal.returns-in-Ok-flush-clause-ok
returns-in-Ok-flush-clause-ok g c = Appends-kept _ _ _ c.args.out.now c.in-Ok.ensures.all c.in-Ok-flush.ensures.bytes

pub returns-in-Err-flush-clause-cut : goal.returns-in-Err-flush-clause-cut
returns-in-Err-flush-clause-cut g c = (
  length c.args.out.now,
  subst (Appends _ _) (sym (take_all _ c.args.out.now (omega arith)))
      (Appends-kept _ _ _ c.args.out.now c.in-Ok.ensures.all c.in-Err-flush.ensures.bytes),
)

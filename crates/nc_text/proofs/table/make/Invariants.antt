use Rattle.nc_text.proofs.Tables.{IsMaking}
use Rattle.nc_text.proofs.table.make.Given as goal

abbrev pub invariant-loop-i : goal.invariant-loop-i
invariant-loop-i l = IsMaking l.initial.pages l.pages l.first l.i

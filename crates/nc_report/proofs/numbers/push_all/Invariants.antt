-- The texts so far were added.
use Rattle.std.proofs.Common.{◌≡◌, ◌++◌, take}
use Rattle.nc_report.specs.machinery.Texts.{texts_joined}
use Rattle.nc_report.proofs.numbers.push_all.Given as goal

abbrev pub invariant-loop-text : goal.invariant-loop-text
invariant-loop-text l = l.out.items ≡ l.initial.out.items ++ texts_joined (take l.text-index l.texts)

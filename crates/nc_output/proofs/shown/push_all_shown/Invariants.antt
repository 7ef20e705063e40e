-- The texts so far were added as they are shown.
use Rattle.std.proofs.Common.{◌≡◌, ◌++◌, take}
use Rattle.nc_output.specs.Shown.{texts_shown}
use Rattle.nc_output.proofs.shown.push_all_shown.Given as goal

abbrev pub invariant-loop-text : goal.invariant-loop-text
invariant-loop-text l = l.out.items ≡ l.initial.out.items ++ texts_shown (take l.text-index l.texts)

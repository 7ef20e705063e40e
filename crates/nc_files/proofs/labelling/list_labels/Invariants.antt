-- The labels so far are made.
use Rattle.std.proofs.Common.{◌≡◌, take, map}
use Rattle.nc_files.specs.Parts.{named, name_in}
use Rattle.nc_files.proofs.labelling.list_labels.Given as goal

abbrev pub invariant-loop-symbol : goal.invariant-loop-symbol
invariant-loop-symbol l = map named l.list.items ≡ map (name_in l.file) (take l.symbol-index l.symbols)

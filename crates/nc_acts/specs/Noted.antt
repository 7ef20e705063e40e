-- The entries that a note stands for.
use Rattle.std.specs.Prelude.{List, [], ◌∷◌}
use Rattle.nc_acts.specs.declared.acts.Entry.{Entry}
use Rattle.nc_acts.specs.declared.log.Note.{Note}
use Rattle.nc_acts.specs.declared.log.Note.TheVariants.{One, Creation, Stops}
use Rattle.nc_acts.specs.Log.{log_of_create, log_of_stops}

-- the entries of a note: itself, or those of a creation, or of the stops over a span
abbrev pub noted : Note → List Entry
noted (One entry) = entry ∷ []
noted (Creation at code) = log_of_create at code.now
noted (Stops at len text) = log_of_stops text.now.marked.marks at len

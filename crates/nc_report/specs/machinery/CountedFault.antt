-- Machinery of the proofs, cited by no public contract: one fault more in the totals, and the words about one kind.
use Rattle.std.specs.Prelude.{ℕ, ◌+◌, Bool, ◌==◌, List, [], ◌++◌, codes, Option, Some, if◌then◌else◌}
use Rattle.std.specs.Fmt.{decimal}
use Rattle.nc_vet.specs.declared.fault.VetFault.{VetFault}
use Rattle.nc_vet.specs.declared.fault.VetFault.TheVariants.{NotPermitted, Crosses, Bare, BadTarget}
use Rattle.nc_report.specs.declared.totals.Counts.{Counts}

-- the counts with one more for the kind of this fault, if there is one
abbrev pub counted : Counts → Option VetFault → Counts
counted counts (Some (Crosses at)) = record counts { crosses = counts.crosses + 1 }
counted counts (Some (NotPermitted at)) = record counts { not_permitted = counts.not_permitted + 1 }
counted counts (Some (Bare at)) = record counts { bare = counts.bare + 1 }
counted counts (Some (BadTarget at)) = record counts { bad_target = counts.bad_target + 1 }
counted counts _ = counts

-- a kind with its number, after a comma unless it is the first; nothing if the number is 0
abbrev pub kind_words : Bool → ℕ → List ℕ → List ℕ
kind_words begun n name = if n == 0 then [] else ((if begun then codes ", " else []) ++ (decimal n ++ (codes " " ++ name)))

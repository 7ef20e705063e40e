-- The number of faults of each kind that the reading of a refused chunk finds, and the line about these numbers.
use Rattle.std.specs.Prelude.{ℕ, ◌+◌, Bool, true, false, ◌==◌, List, [], ◌∷◌, ◌++◌, codes}
use Rattle.std.specs.Prelude.{Option, Some, if◌then◌else◌}
use Rattle.std.specs.List.{count_by, range_with_len}
use Rattle.std.specs.Fmt.{decimal}
use Rattle.nc_vet.specs.declared.fault.VetFault.{VetFault}
use Rattle.nc_vet.specs.declared.fault.VetFault.TheVariants.{NotPermitted, Crosses, Bare, BadTarget}
use Rattle.nc_reading.specs.declared.class.Class.{Class}
use Rattle.nc_report.specs.declared.totals.Counts.{Counts}
use Rattle.nc_report.specs.Further.{fault_at}

-- tests of a fault's kind, one for each kind that is counted
abbrev pub is_crosses : Option VetFault → Bool
is_crosses (Some (Crosses at)) = true
is_crosses _ = false

abbrev pub is_not_permitted : Option VetFault → Bool
is_not_permitted (Some (NotPermitted at)) = true
is_not_permitted _ = false

abbrev pub is_bare : Option VetFault → Bool
is_bare (Some (Bare at)) = true
is_bare _ = false

abbrev pub is_bad_target : Option VetFault → Bool
is_bad_target (Some (BadTarget at)) = true
is_bad_target _ = false

-- the number of places among the first `count` whose fault passes a test
abbrev pub count_of : (Option VetFault → Bool) → ℕ → ℕ → List ℕ → List Class → ℕ → ℕ
count_of test base limit code classes count = count_by (λ k. test (fault_at base limit code classes k)) (range_with_len 0 count)

-- the numbers of faults of each kind at the first `count` places
abbrev pub counts_to : ℕ → ℕ → List ℕ → List Class → ℕ → Counts
counts_to base limit code classes count = record {
  crosses = count_of is_crosses base limit code classes count;
  not_permitted = count_of is_not_permitted base limit code classes count;
  bare = count_of is_bare base limit code classes count;
  bad_target = count_of is_bad_target base limit code classes count;
}

-- the kinds whose number isn't 0, each with its number and name, and a comma before each but the first
abbrev pub kinds_from : Bool → List (ℕ × List ℕ) → List ℕ
kinds_from begun [] = []
kinds_from begun ((n, name) ∷ kinds) =
    if n == 0 then kinds_from begun kinds
    else ((if begun then codes ", " else []) ++ (decimal n ++ (codes " " ++ (name ++ kinds_from true kinds))))

-- the numbers as a member that is an object, with a member for each kind
abbrev pub counts_member : Counts → List ℕ
counts_member counts =
    codes ",\"counts\":{\"Crosses\":" ++ (decimal counts.crosses ++ (codes ",\"NotPermitted\":" ++ (decimal counts.not_permitted
    ++ (codes ",\"Bare\":" ++ (decimal counts.bare ++ (codes ",\"BadTarget\":" ++ (decimal counts.bad_target ++ codes "}")))))))

-- the number of faults
abbrev pub total : Counts → ℕ
total counts = counts.crosses + counts.not_permitted + counts.bare + counts.bad_target

-- the line of totals
abbrev pub totals_line : Counts → List ℕ
totals_line counts =
    decimal (total counts) ++ ((if total counts == 1 then codes " fault: " else codes " faults: ")
    ++ kinds_from false ((counts.crosses, codes "Crosses") ∷ (counts.not_permitted, codes "NotPermitted")
    ∷ (counts.bare, codes "Bare") ∷ (counts.bad_target, codes "BadTarget") ∷ []))

-- The first classes are written.
use Rattle.std.proofs.Common.{◌≡◌, ◌-◌, ◌++◌, List, length, replicate}
use Rattle.nc_reading.specs.declared.class.Class.{Class}
use Rattle.nc_reading.specs.declared.class.Class.TheVariants.{Inside, Skipped}
use Rattle.nc_reading.proofs.steps.put_skipped.Given as goal

abbrev pub invariant-loop-k : goal.invariant-loop-k
invariant-loop-k l =
    (before after : List Class) → length before ≡ l.from → l.initial.classes ≡ before ++ (replicate l.count Inside ++ after)
    → l.classes ≡ before ++ (replicate l.k Skipped ++ (replicate (l.count - l.k) Inside ++ after))

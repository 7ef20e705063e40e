-- The lines so far have their replies, and the flags and verdicts that are left are of the other lines.
use Rattle.std.proofs.Common.{ℕ, List}
use Rattle.std.specs.Vec.Iter.{into_iter_items}
use Rattle.nc_lines.specs.machinery.Batch.{AreFound}
use Rattle.nc_lines.proofs.VetReplies.{AreReplied}
use Rattle.nc_lines.proofs.verdicts.push_verdicts.Given as goal

abbrev pub invariant-loop-is_named : goal.invariant-loop-is_named
invariant-loop-is_named l =
    (limit : ℕ) (lines : List (List ℕ))
    → AreFound limit lines (into_iter_items l.initial.is_named-iterator) (into_iter_items l.initial.left)
    → AreReplied limit lines (into_iter_items l.is_named-iterator) (into_iter_items l.left) l.initial.out.items l.out.items

use Rattle.std.proofs.Common.{◌≡◌, ℕ, ◌<◌, ◌≤◌, true, get_or, None}
use Rattle.std.specs.Option.{is_some}
use Rattle.nc_text.proofs.table.are_made.Given as goal

abbrev pub invariant-loop-number : goal.invariant-loop-number
invariant-loop-number l =
    (j : ℕ) → l.first ≤ j → j < l.number → is_some (get_or l.pages j None) ≡ true

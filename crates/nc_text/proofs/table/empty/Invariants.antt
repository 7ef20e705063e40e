use Rattle.std.proofs.Common.{◌≡◌, replicate, None}
use Rattle.nc_text.proofs.table.empty.Given as goal

abbrev pub invariant-loop-page : goal.invariant-loop-page
invariant-loop-page l =
    l.pages.items ≡ replicate l._page None

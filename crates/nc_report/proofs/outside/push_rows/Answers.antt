use Rattle.std.proofs.Common.{ℕ, sym, subst}
use Rattle.std.specs.List.Sorted.{IsNonDecreasing, IsPermutation}
use Rattle.std.proofs.lemmas.List.Sorted.{IsNonDecreasingBy-from_sort}
use Rattle.std.proofs.lemmas.Result.{on_ok_weaker}
use Rattle.nc_report.proofs.CountedRuns.{lists_outside}
use Rattle.nc_report.proofs.outside.push_rows.Goals as goal

pub push_counts-requires : goal.push_counts-requires
push_counts-requires c =
    subst IsNonDecreasing (sym c.deref.ensures.value)
    (IsNonDecreasingBy-from_sort (λ (x : ℕ). x) c.sort_unstable.new.self.items c.sort_unstable.ensures.sorted)

pub returns : goal.returns
returns c =
    on_ok_weaker c.push_counts.result
    (lists_outside c.args.format c.args.base c.args.code.now c.in_ok-sent.sent.items c.deref.result.now c.args.out.now.items c.push_counts.new.out.items
    c.in_ok-sent.ensures (subst (IsPermutation c.in_ok-sent.sent.items) (sym c.deref.ensures.value) c.sort_unstable.ensures.permutation))
    c.push_counts.ensures

use Rattle.std.proofs.Common.{◌≡◌, ℕ, ◌+◌, ◌-◌, ◌≤◌, map}
use Rattle.std.specs.Option.{is_some}
use Rattle.nc_text.specs.machinery.Pages.{byte_of, mark_in_pages}
use Rattle.nc_text.specs.MarkedText.{unused_mark}
use Rattle.nc_text.proofs.Spans.{IsSetUpTo}
use Rattle.nc_text.proofs.table.unmark.Given as goal

abbrev pub invariant-loop-done : goal.invariant-loop-done
invariant-loop-done l =
    record {
      few : l.done ≤ l.len;
      marks : IsSetUpTo (λ (k : ℕ). unused_mark (l.start + k)) l.start l.done (mark_in_pages l.initial.pages) (mark_in_pages l.pages);
      bytes : (k : ℕ) → byte_of l.pages k ≡ byte_of l.initial.pages k;
      made : map is_some l.pages ≡ map is_some l.initial.pages;
    }

abbrev pub decreases-loop-done : goal.decreases-loop-done
decreases-loop-done l = l.len - l.done

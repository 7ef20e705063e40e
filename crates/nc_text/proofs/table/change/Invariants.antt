use Rattle.std.proofs.Common.{◌≡◌, ℕ, ◌+◌, ◌-◌, ◌%◌, ◌≤◌, map}
use Rattle.std.specs.Option.{is_some}
use Rattle.nc_text.specs.machinery.Pages.{byte_of, mark_in_pages}
use Rattle.nc_text.proofs.Spans.{IsSetUpTo}
use Rattle.nc_text.proofs.table.change.Given as goal

abbrev pub invariant-loop-done : goal.invariant-loop-done
invariant-loop-done g l =
    record {
      few : l.done ≤ l.size;
      whole : l.done % 32 ≡ 0;
      bytes : IsSetUpTo
          (λ (k : ℕ). g.C.Change.byte l.what k (mark_in_pages l.initial.pages (l.start + k)) (byte_of l.initial.pages (l.start + k)))
          l.start l.done (byte_of l.initial.pages) (byte_of l.pages);
      marks : IsSetUpTo (λ (k : ℕ). g.C.Change.mark l.what k (mark_in_pages l.initial.pages (l.start + k)))
          l.start l.done (mark_in_pages l.initial.pages) (mark_in_pages l.pages);
      made : map is_some l.pages ≡ map is_some l.initial.pages;
    }

abbrev pub decreases-loop-done : goal.decreases-loop-done
decreases-loop-done g l = l.size - l.done

use Rattle.std.proofs.Common.{◌≡◌, ℕ, ◌-◌, ◌≤◌, map, length, get_or}
use Rattle.std.specs.Option.{is_some}
use Rattle.nc_decode.specs.declared.instruction.Mark.TheVariants.{Unmarked}
use Rattle.nc_text.specs.machinery.Pages.{byte_of, mark_in_pages}
use Rattle.nc_text.proofs.Spans.{IsSetUpTo}
use Rattle.nc_text.proofs.table.set_span.Given as goal

abbrev pub invariant-loop-done : goal.invariant-loop-done
invariant-loop-done l =
    record {
      few : l.done ≤ length l.marks;
      marks : IsSetUpTo (λ (k : ℕ). get_or l.marks k Unmarked) l.start l.done (mark_in_pages l.initial.pages) (mark_in_pages l.pages);
      bytes : (k : ℕ) → byte_of l.pages k ≡ byte_of l.initial.pages k;
      made : map is_some l.pages ≡ map is_some l.initial.pages;
    }

abbrev pub decreases-loop-done : goal.decreases-loop-done
decreases-loop-done l = length l.marks - l.done

use Rattle.std.proofs.Common.{◌≡◌, ℕ, ◌+◌, ◌*◌}
use Rattle.nc_decode.specs.Bits.{mark_by_bits}
use Rattle.nc_text.specs.machinery.Pages.{byte_on, mark_on}
use Rattle.nc_text.proofs.Spans.{IsSetUpTo}
use Rattle.nc_text.proofs.page.Page.set_bundles.Given as goal

abbrev pub invariant-loop-n : goal.invariant-loop-n
invariant-loop-n l =
    record {
      marks : IsSetUpTo (λ (k : ℕ). mark_by_bits l.code l.bundles (l.from + k)) l.at (32 * l.n) (mark_on l.initial.self) (mark_on l.self);
      bytes : (k : ℕ) → byte_on l.self k ≡ byte_on l.initial.self k;
    }

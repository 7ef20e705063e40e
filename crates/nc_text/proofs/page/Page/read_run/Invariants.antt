use Rattle.std.proofs.Common.{◌≡◌, ℕ, ◌+◌, ◌<◌, length, get_or}
use Rattle.nc_text.proofs.page.Page.read_run.Given as goal

abbrev pub invariant-loop-k : goal.invariant-loop-k
invariant-loop-k l =
    record {
      long : length l.bytes ≡ 32;
      done : (j : ℕ) → j < l.k → get_or l.bytes j 0 ≡ get_or l.self.bytes (l.at + j) 0;
    }

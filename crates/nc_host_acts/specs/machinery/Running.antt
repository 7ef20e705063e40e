-- Runs written into a buffer, one after the other.
use Rattle.std.specs.Prelude.{◌≡◌, ℕ, zero, suc, ◌+◌, ◌*◌, ◌/◌, ◌%◌, ◌==◌, Bool, true, false, List, ◌++◌, length, take, replicate}
use Rattle.nc_decode.specs.declared.instruction.Mark.{Mark}
use Rattle.nc_acts.specs.declared.acts.Entry.{Entry}
use Rattle.nc_acts.specs.Acts.{puts_where, is_start, is_inside}
use Rattle.nc_acts.specs.Log.{only_acts}
use Rattle.nc_host_acts.specs.declared.act.NcAct.{NcAct}
use Rattle.nc_host_acts.specs.declared.runs.Places.{Places}
use Rattle.nc_host_acts.specs.declared.runs.Places.TheVariants.{Inside, Starts, Marked, Unmarked}
use Rattle.nc_host_acts.specs.Runs.{Run, PutRun, StopRun, runs_where, HasRuns}
use Rattle.nc_host_acts.specs.machinery.Writing.{marks_if}

-- whether a run of these places includes this one, in a chunk with these marks at this base
abbrev pub picks : Places → (ℕ → Mark) → ℕ → ℕ → Bool
picks Inside marks base at = is_inside at
picks Starts marks base at = is_start at
picks Marked marks base at = marks_if true marks base at
picks Unmarked marks base at = marks_if false marks base at

-- the bytes that runs of these places put: the chunk's, or stops
abbrev pub bytes_for : Places → List ℕ → List ℕ
bytes_for Inside code = code
bytes_for Starts code = code
bytes_for Marked code = replicate (length code) 0xF4
bytes_for Unmarked code = replicate (length code) 0xF4

-- a run of these places
abbrev pub run_at : Places → ℕ → ℕ → Run
run_at Inside at bits = PutRun at bits
run_at Starts at bits = PutRun at bits
run_at Marked at bits = StopRun at bits
run_at Unmarked at bits = StopRun at bits

-- the number has a bit for each of n places from this address on, set where the place passes the test, and no other bits
abbrev pub AreBits : (ℕ → Bool) → ℕ → ℕ → ℕ → Type 0
AreBits chosen at zero bits = bits ≡ 0
AreBits chosen at (suc n) bits = ((bits % 2 == 1) ≡ chosen at) × AreBits chosen (at + 1) n (bits / 2)

-- `AreBits` as a record, which a check leaves folded
pub record HasBits (chosen : ℕ → Bool) (at n bits : ℕ) : Type 0 where
  pub are : AreBits chosen at n bits

-- these runs, which stand for these entries, have been appended to those in the buffer
abbrev pub AddsRuns : ℕ → List ℕ → List NcAct → ℕ → List NcAct → ℕ → List Run → List Entry → Type 0
AddsRuns base code initial from acts count runs added =
    (start : List NcAct) (before : List Run) (log : List Entry) → HasRuns start initial from base code before log
    → HasRuns start acts count base code (before ++ runs) (log ++ added)

-- The runs of the first n bundles follow the runs that the buffer had at first.
pub record HasRunUpTo (places : Places) (marks : ℕ → Mark) (base : ℕ) (code : List ℕ) (initial : List NcAct) (from n : ℕ)
    (acts : List NcAct) (count : ℕ) : Type 0 where
  pub len : length acts ≡ length initial
  pub counted : count ≡ from + n
  pub written : AddsRuns base code initial from acts count (runs_where (run_at places) (picks places marks base) base n)
      (only_acts (puts_where (picks places marks base) base (take (32 * n) (bytes_for places code))))

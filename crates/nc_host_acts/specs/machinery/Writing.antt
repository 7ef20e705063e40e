-- Puts written into a buffer, one after the other.
use Rattle.std.specs.Prelude.{◌≡◌, ℕ, ◌+◌, ◌-◌, ◌==◌, Bool, true, false, not, List, ◌++◌, take, length}
use Rattle.std.specs.Int.{bit_at}
use Rattle.nc_decode.specs.declared.instruction.Mark.{Mark}
use Rattle.nc_acts.specs.declared.acts.Entry.{Entry}
use Rattle.nc_acts.specs.Acts.{puts_where, is_mark}
pub use Rattle.nc_acts.specs.Acts.{starts_if}
use Rattle.nc_acts.specs.Log.{only_acts}
use Rattle.nc_host_acts.specs.declared.act.NcAct.{NcAct}
use Rattle.nc_host_acts.specs.Written.{HoldsLog}

-- The first n of these bytes have been examined, and the puts of those at places that pass the test follow the entries that
-- the buffer had at first.
pub record HasPutUpTo (chosen : ℕ → Bool) (at : ℕ) (bytes : List ℕ) (initial : List NcAct) (from n : ℕ) (acts : List NcAct) (count : ℕ)
    : Type 0 where
  pub len : length acts ≡ length initial
  pub counted : count ≡ from + length (puts_where chosen at (take n bytes))
  pub written : (start : List NcAct) (log : List Entry) → HoldsLog start initial from log
      → HoldsLog start acts count (log ++ only_acts (puts_where chosen at (take n bytes)))

-- a mark that stands for a state, or one that stands for none
abbrev pub mark_if : Bool → Mark → Bool
mark_if true mark = is_mark mark
mark_if false mark = not (is_mark mark)

-- marked places, or the others, by the marks of a chunk at this base
abbrev pub marks_if : Bool → (ℕ → Mark) → ℕ → ℕ → Bool
marks_if marked marks base at = mark_if marked (marks (at - base))

-- the place's bit is set, in a number with a bit for each place from this address on; the lowest bit is the first place's
abbrev pub is_among : ℕ → ℕ → ℕ → Bool
is_among places at place = bit_at places (place - at) == 1

-- The contents of a buffer after acts are written into it.
use Rattle.std.specs.Prelude.{◌≡◌, ℕ, List, ◌++◌, length, map}
use Rattle.nc_acts.specs.declared.acts.Entry.{Entry}
use Rattle.nc_host_acts.specs.declared.act.NcAct.{NcAct}
use Rattle.nc_host_acts.specs.Shown.{entry_of, over}

-- the buffer now begins with exactly this log's entries, and is as before beyond them; the count is their number
pub record HoldsLog (start now : List NcAct) (count : ℕ) (log : List Entry) : Type 0 where
  pub buffer : now ≡ over (map entry_of log) start
  pub counted : count ≡ length log

-- whatever log the buffer began with at the old count, it now begins with that log and these entries, at the new count
abbrev pub AddsEntries : List NcAct → ℕ → List NcAct → ℕ → List Entry → Type 0
AddsEntries initial from acts count added =
    (start : List NcAct) (log : List Entry) → HoldsLog start initial from log → HoldsLog start acts count (log ++ added)

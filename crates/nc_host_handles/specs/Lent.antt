-- The contents of a buffer that may have been lent.
use Rattle.std.specs.Prelude.{◌≡◌, ℕ, ◌-◌, ◌<◌, List, length, map, take, drop}
use Rattle.nc_acts.specs.declared.acts.Entry.{Entry}
use Rattle.nc_host_acts.specs.declared.act.NcAct.{NcAct}
use Rattle.nc_host_acts.specs.Shown.{entry_of, over}

-- A lent buffer begins with exactly the entries of this log, and is as before beyond them; the count is their number. If
-- none is lent, the count is 0. An entry is three numbers: 1, address and byte for a put; 2, address and length for a marked span; 3 for a
-- stamp; 6 for a serialization.
pub record IsReported (old new : List NcAct) (count : ℕ) (log : List Entry) : Type 0 where
  pub lent : 0 < length old → (count ≡ length log) × (new ≡ over (map entry_of log) old)
  pub not_lent : length old ≡ 0 → count ≡ 0

-- the bytes of a span of the text
abbrev pub bytes_of_span : List ℕ → ℕ → ℕ → List ℕ
bytes_of_span text base len = take len (drop (base - 0x10000) text)

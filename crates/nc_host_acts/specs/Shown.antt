-- A log as a host reads it: numbers for acts and serializations.
use Rattle.std.specs.Prelude.{List, ◌++◌, length, drop}
use Rattle.nc_acts.specs.declared.acts.Act.{Act}
use Rattle.nc_acts.specs.declared.acts.Act.TheVariants.{Put, MarkSpan, UnmarkSpan, Bump, Look}
use Rattle.nc_acts.specs.declared.acts.Entry.{Entry}
use Rattle.nc_acts.specs.declared.acts.Entry.TheVariants.{Did, Serialized}
use Rattle.nc_host_acts.specs.declared.act.NcAct.{NcAct}

-- an act as three numbers: its kind, 1 to 5; its address; and its byte or length; 0 for each that it doesn't have
abbrev pub act_of : Act → NcAct
act_of (Put at byte) = record { kind = 1; at = at; value = byte }
act_of (MarkSpan at len) = record { kind = 2; at = at; value = len }
act_of Bump = record { kind = 3; at = 0; value = 0 }
act_of (UnmarkSpan at len) = record { kind = 4; at = at; value = len }
act_of Look = record { kind = 5; at = 0; value = 0 }

-- An entry of a log as three numbers: 1, address and byte for a put; 2, address and length for a marked span; 3 for a
-- stamp; 6 for a serialization. No call writes 4, a span unmarked, or 5, a look.
abbrev pub entry_of : Entry → NcAct
entry_of (Did act) = act_of act
entry_of Serialized = record { kind = 6; at = 0; value = 0 }

-- a buffer with its first elements replaced by these
abbrev pub over : {X : Type 0} → List X → List X → List X
over front old = front ++ drop (length front) old

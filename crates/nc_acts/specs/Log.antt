-- The acts of each call with the serializations among them.
use Rattle.std.specs.Prelude.{◌≡◌, ℕ, List, [], ◌∷◌, ◌++◌, length, map, replicate}
use Rattle.nc_decode.specs.declared.instruction.Mark.{Mark}
use Rattle.nc_acts.specs.declared.acts.Act.{Act}
use Rattle.nc_acts.specs.declared.acts.Act.TheVariants.{MarkSpan, Bump}
use Rattle.nc_acts.specs.declared.acts.Entry.{Entry}
use Rattle.nc_acts.specs.declared.acts.Entry.TheVariants.{Did, Serialized}
use Rattle.nc_acts.specs.Acts.{puts_where, is_start, is_inside, is_marked_at, is_unmarked_at}

-- these entries have been appended to the log
abbrev pub Logs : List Entry → List Entry → List Entry → Type 0
Logs before after entries = after ≡ before ++ entries

-- the log entries of these acts, with no serialization among them
abbrev pub only_acts : List Act → List Entry
only_acts acts = map Did acts

-- the log of a creation: its acts, with one serialization after the bytes that aren't at bundle starts are put and before the
-- chunk is marked
abbrev pub log_of_create : ℕ → List ℕ → List Entry
log_of_create base code =
    only_acts (puts_where is_inside base code)
    ++ (Serialized ∷ Did (MarkSpan base (length code)) ∷ only_acts (puts_where is_start base code))

-- the log of the stops over a span: F4 is put at the marked places, then the region serializes, then F4 is put at the others
abbrev pub log_of_stops : List Mark → ℕ → ℕ → List Entry
log_of_stops marks base len =
    only_acts (puts_where (is_marked_at marks) base (replicate len 0xF4))
    ++ (Serialized ∷ only_acts (puts_where (is_unmarked_at marks) base (replicate len 0xF4)))

-- the log of a deletion: its acts, with one serialization after F4 is put at the marked places and before it is put at the
-- others
abbrev pub log_of_delete : List Mark → ℕ → ℕ → List Entry
log_of_delete marks base len =
    only_acts (puts_where (is_marked_at marks) base (replicate len 0xF4))
    ++ (Serialized ∷ (only_acts (puts_where (is_unmarked_at marks) base (replicate len 0xF4)) ++ Did Bump ∷ []))

-- the acts of a log, without its serializations
abbrev pub acts_in : List Entry → List Act
acts_in [] = []
acts_in (Did act ∷ rest) = act ∷ acts_in rest
acts_in (Serialized ∷ rest) = acts_in rest

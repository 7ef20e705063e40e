-- Lists of acts in which one act can stand for the puts of a bundle.
use Rattle.std.specs.Prelude.{◌≡◌, ℕ, zero, suc, ◌+◌, ◌*◌, ◌-◌, ◌/◌, ◌%◌, ◌==◌, Bool, if◌then◌else◌, List, [], ◌∷◌, ◌++◌, length, map, take}
use Rattle.std.specs.Prelude.{drop, replicate}
use Rattle.nc_decode.specs.declared.instruction.Mark.{Mark}
use Rattle.nc_acts.specs.declared.acts.Act.{Act}
use Rattle.nc_acts.specs.declared.acts.Act.TheVariants.{Put, MarkSpan, Bump}
use Rattle.nc_acts.specs.declared.acts.Entry.{Entry}
use Rattle.nc_acts.specs.declared.acts.Entry.TheVariants.{Did, Serialized}
use Rattle.nc_acts.specs.Acts.{is_start, is_inside, is_marked_at, is_unmarked_at}
use Rattle.nc_acts.specs.Log.{only_acts}
use Rattle.nc_host_acts.specs.declared.act.NcAct.{NcAct}
use Rattle.nc_host_acts.specs.Shown.{entry_of, over}

-- A run: a single act or serialization; or puts of the chunk's bytes, or of stops, at those of the 32 places from an address on
-- whose bits are set. The lowest bit is the first place's.
pub data Run : Type 0 where
  Single : Entry → Run
  PutRun : (at : ℕ) → (bits : ℕ) → Run
  StopRun : (at : ℕ) → (bits : ℕ) → Run

-- a run as a host reads it
abbrev pub run_of : Run → NcAct
run_of (Single entry) = entry_of entry
run_of (PutRun at bits) = record { kind = 7; at = at; value = bits }
run_of (StopRun at bits) = record { kind = 8; at = at; value = bits }

-- the puts of these bytes, from this address on in ascending order, at the places whose bits are set; the lowest bit is
-- the first place's
abbrev pub puts_by_bits : ℕ → ℕ → List ℕ → List Act
puts_by_bits at bits [] = []
puts_by_bits at bits (byte ∷ rest) =
    if bits % 2 == 1 then Put at byte ∷ puts_by_bits (at + 1) (bits / 2) rest else puts_by_bits (at + 1) (bits / 2) rest

-- the entries that a run stands for, for a chunk of this code at this base
abbrev pub entries_of : ℕ → List ℕ → Run → List Entry
entries_of base code (Single entry) = entry ∷ []
entries_of base code (PutRun at bits) = only_acts (puts_by_bits at bits (take 32 (drop (at - base) code)))
entries_of base code (StopRun at bits) = only_acts (puts_by_bits at bits (replicate 32 0xF4))

-- the entries that these runs stand for, concatenated
abbrev pub entries_in : ℕ → List ℕ → List Run → List Entry
entries_in base code [] = []
entries_in base code (run ∷ rest) = entries_of base code run ++ entries_in base code rest

-- the number whose bits say which of n places, from this one on, pass the test; the lowest bit is the first place's
abbrev pub bits_where : (ℕ → Bool) → ℕ → ℕ → ℕ
bits_where chosen at zero = 0
bits_where chosen at (suc n) = (if chosen at then 1 else 0) + 2 * bits_where chosen (at + 1) n

-- the number whose bits say which of the 32 places from this one on pass the test
unfoldable pub bits_at : (ℕ → Bool) → ℕ → ℕ
bits_at chosen at = bits_where chosen at 32

-- one run for each of n bundles, from this address on in ascending order: its places are those that pass the test
abbrev pub runs_where : (ℕ → ℕ → Run) → (ℕ → Bool) → ℕ → ℕ → List Run
runs_where run chosen at zero = []
runs_where run chosen at (suc n) = run at (bits_at chosen at) ∷ runs_where run chosen (at + 32) n

-- the runs of a creation: for each bundle its bytes after the first, then the serialization and the marks, then for each
-- bundle its first byte
abbrev pub runs_of_create : ℕ → List ℕ → List Run
runs_of_create base code =
    runs_where PutRun is_inside base (length code / 32)
    ++ (Single Serialized ∷ Single (Did (MarkSpan base (length code))) ∷ runs_where PutRun is_start base (length code / 32))

-- the runs of a deletion: for each bundle F4 at its marked places, then the serialization, then for each bundle F4 at the
-- others, then the stamp
abbrev pub runs_of_delete : List Mark → ℕ → ℕ → List Run
runs_of_delete marks base len =
    runs_where StopRun (is_marked_at marks) base (len / 32)
    ++ (Single Serialized ∷ (runs_where StopRun (is_unmarked_at marks) base (len / 32) ++ Single (Did Bump) ∷ []))

-- The buffer now begins with these runs, and is as before beyond them; the count is their number, and they stand for
-- exactly this log of a chunk. A run is an entry; or it is 7 (the chunk's bytes) or 8 (F4), an address, and a number
-- whose bits select among the 32 places from that address on, the lowest bit the first.
pub record HasRuns (start now : List NcAct) (count base : ℕ) (code : List ℕ) (runs : List Run) (log : List Entry) : Type 0 where
  pub buffer : now ≡ over (map run_of runs) start
  pub counted : count ≡ length runs
  pub entries : entries_in base code runs ≡ log

-- The reply of a script to a line, and the state after it.
use Rattle.std.specs.Prelude.{◌≡◌, ◌≢◌, ℕ, Bool, ◌+◌, ◌^◌, ◌<◌, ◌⊎◌, List, [], length, map, replicate, MatchOption, Some, codes, slice_get}
use Rattle.std.specs.Prelude.{slice_set}
use Rattle.nc_decode.specs.Bundles.{limit_after}
use Rattle.nc_vet.specs.Faults.{HasFault}
use Rattle.nc_vet.specs.declared.fault.VetFault.{VetFault}
use Rattle.nc_vet.specs.declared.fault.VetFault.TheVariants.{OutOfMemory}
use Rattle.nc_region.specs.declared.trace.End.{End}
use Rattle.nc_region.specs.Trace.{IsTrace, IsWalkStart}
use Rattle.nc_lines.specs.Lines.{bad_line}
use Rattle.nc_region.specs.declared.fault.ModifyFault.{ModifyFault}
use Rattle.nc_region.specs.declared.fault.DeleteFault.{DeleteFault}
use Rattle.nc_script.specs.Requests.{Request, Create, Modify, Delete, CheckIn, Leave, Reclaim, Walk, Query, request_in}
use Rattle.nc_script.specs.Script.{Script, Live, Staying, Left, script_text, IsOccupied, IsPutBetween}
use Rattle.nc_script.specs.Patching.{IsLawfulPatch, IsRefusedPatch, patched_at}
use Rattle.nc_script.specs.Reuse.{ListsLive, retired_at, IsRefusedDeletion, IsThere, IsFreeingNumber, freed_by, kept_by, AllStay}
use Rattle.nc_output.specs.Verdicts.{with_line_end, refused_words, fault_words}
use Rattle.nc_output.specs.Verdicts.{IsValidAt}
use Rattle.nc_script.specs.Queries.{reply_to}
use Rattle.nc_script.specs.Replies.{walk_reply, patch_words, deletion_words}
use Rattle.nc_script.specs.Replies.{stamp_reply, freed_reply}

-- a valid chunk that overlaps no other is put into the list
pub record IsAdded (base : ℕ) (bytes : List ℕ) (old : Script) (reply : List ℕ) (new : Script) : Type 0 where
  pub valid : IsValidAt base old.limit bytes
  pub free : ¬ IsOccupied base (length bytes) old.chunks
  pub reply_is : reply ≡ with_line_end (codes "ok")
  pub others : new ≡ record old { chunks = new.chunks }
  pub inserted : IsPutBetween (record { base = base; state = Live bytes }) old.chunks new.chunks

-- a chunk that isn't valid is refused with its fault
pub record IsFaulted (base : ℕ) (bytes : List ℕ) (old : Script) (reply : List ℕ) (new : Script) : Type 0 where
  pub fault : VetFault
  pub has : HasFault base old.limit bytes fault
  pub known : fault ≢ OutOfMemory
  pub reply_is : reply ≡ with_line_end (refused_words (fault_words fault))
  pub same : new ≡ old

-- a valid chunk that overlaps another is refused
pub record IsCrowdedOut (base : ℕ) (bytes : List ℕ) (old : Script) (reply : List ℕ) (new : Script) : Type 0 where
  pub valid : IsValidAt base old.limit bytes
  pub taken : IsOccupied base (length bytes) old.chunks
  pub reply_is : reply ≡ with_line_end (refused_words (codes "Occupied"))
  pub same : new ≡ old

-- a walk from a bundle start of the region shows its trace
pub record IsWalked (start : ℕ) (choices : List ℕ) (old : Script) (reply : List ℕ) (new : Script) : Type 0 where
  pub begins : IsWalkStart (script_text old) start
  pub places : List ℕ
  pub end : End
  pub trace : IsTrace (script_text old) start choices places end
  pub reply_is : reply ≡ with_line_end (walk_reply places end)
  pub same : new ≡ old

-- a walk that doesn't begin at a bundle start of the region is refused
pub record IsNoStart (start : ℕ) (old : Script) (reply : List ℕ) (new : Script) : Type 0 where
  pub begins_not : ¬ IsWalkStart (script_text old) start
  pub reply_is : reply ≡ with_line_end (refused_words (codes "NotBundle"))
  pub same : new ≡ old

-- a lawful patch is made: the chunk has the new bytes
pub record PatchesLive (at : ℕ) (bytes : List ℕ) (old : Script) (reply : List ℕ) (new : Script) : Type 0 where
  pub lawful : IsLawfulPatch old at bytes
  pub reply_is : reply ≡ with_line_end (codes "ok")
  pub new_is : new ≡ record old { chunks = map (patched_at at bytes) old.chunks }

-- a patch that isn't lawful is refused
pub record IsNotPatched (at : ℕ) (bytes : List ℕ) (old : Script) (reply : List ℕ) (new : Script) : Type 0 where
  pub fault : ModifyFault
  pub due : IsRefusedPatch old at bytes fault
  pub reply_is : reply ≡ with_line_end (refused_words (patch_words fault))
  pub same : new ≡ old

-- a live chunk is deleted: it is retired, and its stamp is the next generation
pub record RetiresLive (base : ℕ) (old : Script) (reply : List ℕ) (new : Script) : Type 0 where
  pub live : ListsLive old.chunks base
  pub room : old.generation < 2 ^ 62
  pub reply_is : reply ≡ with_line_end (stamp_reply (old.generation + 1))
  pub new_is : new ≡ record old { chunks = map (retired_at base (old.generation + 1)) old.chunks; generation = old.generation + 1 }

-- a deletion is refused: no live chunk has this base, or the generation is the last one
pub record IsNotDeleted (base : ℕ) (old : Script) (reply : List ℕ) (new : Script) : Type 0 where
  pub fault : DeleteFault
  pub due : IsRefusedDeletion old base fault
  pub reply_is : reply ≡ with_line_end (refused_words (deletion_words fault))
  pub same : new ≡ old

-- a seat that hasn't left checks in: its number becomes the generation
pub record IsCheckedIn (seat : ℕ) (old : Script) (reply : List ℕ) (new : Script) : Type 0 where
  pub there : IsThere old.seats seat
  pub reply_is : reply ≡ with_line_end (codes "ok")
  pub new_is : new ≡ record old { seats = slice_set old.seats seat (Staying old.generation) }

-- a seat that hasn't left leaves, and keeps its number
pub record HasLeft (seat : ℕ) (old : Script) (reply : List ℕ) (new : Script) : Type 0 where
  pub number : ℕ
  pub there : slice_get old.seats seat ≡ Some (Staying number)
  pub reply_is : reply ≡ with_line_end (codes "ok")
  pub new_is : new ≡ record old { seats = slice_set old.seats seat (Left number) }

-- a check-in or a leave is refused: there is no such seat, or it has left
pub record IsNoSeat (seat : ℕ) (old : Script) (reply : List ℕ) (new : Script) : Type 0 where
  pub none : ¬ IsThere old.seats seat
  pub reply_is : reply ≡ with_line_end (refused_words (codes "NoSeat"))
  pub same : new ≡ old

-- exactly the retired chunks with a stamp of at most the freeing number are freed
pub record IsFreed (old : Script) (reply : List ℕ) (new : Script) : Type 0 where
  pub a : ℕ
  pub number : IsFreeingNumber old a
  pub reply_is : reply ≡ with_line_end (freed_reply (length (freed_by a old.chunks)))
  pub new_is : new ≡ record old { chunks = kept_by a old.chunks; freed = a }

-- From the old state this is a reply to the request, and `new` is the state after it.
abbrev pub Serves : Request → Script → List ℕ → Script → Type 0
Serves (Create base bytes) old reply new =
    IsAdded base bytes old reply new ⊎ (IsFaulted base bytes old reply new ⊎ IsCrowdedOut base bytes old reply new)
Serves (Modify at bytes) old reply new = PatchesLive at bytes old reply new ⊎ IsNotPatched at bytes old reply new
Serves (Delete base) old reply new = RetiresLive base old reply new ⊎ IsNotDeleted base old reply new
Serves (CheckIn seat) old reply new = IsCheckedIn seat old reply new ⊎ IsNoSeat seat old reply new
Serves (Leave seat) old reply new = HasLeft seat old reply new ⊎ IsNoSeat seat old reply new
Serves Reclaim old reply new = IsFreed old reply new
Serves (Walk start choices) old reply new = IsWalked start choices old reply new ⊎ IsNoStart start old reply new
Serves (Query query) old reply new = (reply ≡ with_line_end (reply_to query old)) × (new ≡ old)

-- From the old state this is a reply to the line, and `new` is the state after it. A line that makes no request is a bad
-- line, and changes nothing.
abbrev pub ServesLine : (queries : Bool) → Script → List ℕ → List ℕ → Script → Type 0
ServesLine queries old line reply new =
    MatchOption (request_in queries line) ((reply ≡ bad_line) × (new ≡ old)) (λ request. Serves request old reply new)

-- the request has no other reply, and leads to no other state
abbrev pub IsOnly : Request → Script → List ℕ → Script → Type 0
IsOnly request old reply new = (other : List ℕ) (next : Script) → Serves request old other next → (other ≡ reply) × (next ≡ new)

-- The line has only one reply: it isn't a reclaim, or no seat has left. Once a seat has left, the number by which a reclaim
-- frees depends on the moment at which the keeper sees that.
abbrev pub IsDetermined : (queries : Bool) → Script → List ℕ → Type 0
IsDetermined queries old line = (request_in queries line ≢ Some Reclaim) ⊎ AllStay old

-- From the old state this is a reply to the line, which leads to the new state. There is no other reply if the line isn't
-- a reclaim, or if no seat has left.
pub record IsOnlyReply (queries : Bool) (old : Script) (line reply : List ℕ) (new : Script) : Type 0 where
  pub serves : ServesLine queries old line reply new
  pub only : IsDetermined queries old line → (other : List ℕ) (next : Script) → ServesLine queries old line other next
      → (other ≡ reply) × (next ≡ new)

-- the initial state: there is no chunk, no seat has left, and all numbers are 0
abbrev pub new_script : ℕ → ℕ → Script
new_script bundles seats = record {
  limit = limit_after bundles;
  chunks = [];
  generation = 0;
  seats = replicate seats (Staying 0);
  freed = 0;
}

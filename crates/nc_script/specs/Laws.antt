-- As long as no seat leaves, lines have no other replies than those that a run wrote.
use Rattle.std.specs.Prelude.{◌≡◌, ◌≢◌, ◌++◌, ℕ, ◌≤◌, Bool, List, [], ◌∷◌, Option, Some, All, Any}
use Rattle.std.specs.Io.KnownBytes.{Appends}
use Rattle.nc_lines.specs.Replying.{RepliesToLines, IsBegun}
use Rattle.nc_script.specs.Serving.{IsOnlyReply, Serves, ServesLine}
use Rattle.nc_output.specs.Verdicts.{with_line_end}
use Rattle.nc_script.specs.Replies.{freed_reply}
use Rattle.nc_script.specs.Requests.{Leave, Reclaim, request_in}
use Rattle.nc_script.specs.Reuse.{number_of, IsFreeingNumber, AllStay}
use Rattle.nc_script.specs.Script.{Script, Retired, Staying, Left}

-- the line makes no request for a leave
abbrev pub IsNoLeave : (queries : Bool) → List ℕ → Type 0
IsNoLeave queries line = (seat : ℕ) → request_in queries line ≢ Some (Leave seat)

-- the text that was written is a prefix of any replies to all of these lines
pub record BeginsReplies (queries : Bool) (old : Script) (before after : Option (List ℕ)) (lines : List (List ℕ)) : Type 0 where
  pub reply : List ℕ
  pub written : Appends before after reply
  pub begins : (all : List ℕ) (last : Script) → RepliesToLines (ServesLine queries) old lines all last
      → (rest : List ℕ) × (all ≡ reply ++ rest)

-- if no seat has left and no line requests a leave, lines have only one reply and lead to only one state
abbrev pub HasOneReply : Type 0
HasOneReply = (queries : Bool) (old : Script) (lines : List (List ℕ)) (reply other : List ℕ) (new next : Script) → AllStay old
    → All (IsNoLeave queries) lines → RepliesToLines (IsOnlyReply queries) old lines reply new
    → RepliesToLines (ServesLine queries) old lines other next → (other ≡ reply) × (next ≡ new)

-- if no seat has left and no line requests a leave, the part written of the replies to some first lines is a prefix of the
-- replies to all lines
abbrev pub BeginsAll : Type 0
BeginsAll = (queries : Bool) (old : Script) (before after : Option (List ℕ)) (lines : List (List ℕ)) → AllStay old
    → All (IsNoLeave queries) lines → IsBegun (IsOnlyReply queries) old before after lines
    → BeginsReplies queries old before after lines

-- while no seat has left, the number by which a reclaim frees is the least number of all seats
abbrev pub FreesByLeast : Type 0
FreesByLeast = (old : Script) (a : ℕ) → AllStay old → IsFreeingNumber old a
    → All (λ seat. a ≤ number_of seat) old.seats × Any (λ seat. number_of seat ≡ a) old.seats

-- two seats after the deletion of a chunk: the first has checked in since, and the second has left without checking in
abbrev pub one_left : Script
one_left = record {
  limit = 0x10080;
  chunks = record { base = 0x10000; state = Retired 32 1 } ∷ [];
  generation = 1;
  seats = Staying 1 ∷ Left 0 ∷ [];
  freed = 0;
}

-- if one of two seats has checked in since a deletion and the other has left without checking in, a reclaim can free the
-- chunk or not
abbrev pub LeavesOpen : Type 0
LeavesOpen =
    ((new : Script) × Serves Reclaim one_left (with_line_end (freed_reply 0)) new)
    × ((new : Script) × Serves Reclaim one_left (with_line_end (freed_reply 1)) new)

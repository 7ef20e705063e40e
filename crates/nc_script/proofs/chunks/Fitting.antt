-- A session goes on standing for the states of its script.
use Rattle.std.proofs.Common.{◌≡◌, ℕ, ◌≤◌, ◌^◌, List, refl, sym, subst, arith, Option, Some, None, get_or}
use Rattle.nc_gens.specs.Seen.{PassState, KeeperState}
use Rattle.nc_list.specs.declared.chunk.Chunk.{Chunk}
use Rattle.nc_base.specs.Each.{Each}
use Rattle.nc_region.specs.Region.{Region}
use Rattle.nc_script.specs.Requests.{Request}
use Rattle.nc_script.specs.Script.{ScriptSeat, Staying, Left}
use Rattle.nc_script.specs.Serving.{Serves}
use Rattle.nc_script.specs.machinery.Session.{script_of, SeatFits, SeatsFit, IsStamped, FollowsIn}

-- the stamps of chunks aren't above a generation
abbrev pub AreStamped : ℕ → List Chunk → Type 0
AreStamped generation chunks = Each (λ (c : Chunk). IsStamped generation c.state) chunks

-- a request that leaves the keeper as it is, and retires nothing
pub follows_kept : (request : Request) (old new : Region) (reply : List ℕ) → new.keeper ≡ old.keeper
    → ((generation : ℕ) → AreStamped generation old.chunks → AreStamped generation new.chunks)
    → ((seats : List ScriptSeat) (freed : ℕ) → Serves request (script_of old seats freed) reply (script_of new seats freed))
    → FollowsIn request old reply new
follows_kept request old new reply same stamped serves state seats freed fits = (
  seats,
  freed,
  serves seats freed,
  record {
    in_range = subst (λ (k : KeeperState). k.numbers.generation ≤ 2 ^ 62) (sym same) fits.in_range;
    current = subst (λ (k : KeeperState). freed ≤ k.numbers.generation) (sym same) fits.current;
    stamps = subst (λ (k : KeeperState). AreStamped k.numbers.generation new.chunks) (sym same) (stamped _ fits.stamps);
    seats_fit = subst (λ (k : KeeperState). SeatsFit k.numbers.generation freed state.passes k.numbers.bounds seats) (sym same)
        fits.seats_fit;
  },
)

-- a request that leaves the region as it is
pub follows_same : (request : Request) (region : Region) (reply : List ℕ)
    → ((seats : List ScriptSeat) (freed : ℕ) → Serves request (script_of region seats freed) reply (script_of region seats freed))
    → FollowsIn request region reply region
follows_same request region reply serves = follows_kept request region region reply refl (λ generation h. h) serves

-- seats that fit a generation fit a higher one
pub seats_up : (low high freed : ℕ) (passes : List (Option PassState)) (before after : List ℕ) (seats : List ScriptSeat) → low ≤ high
    → after ≡ before → SeatsFit low freed passes before seats → SeatsFit high freed passes after seats
seats_up low high freed passes before after seats le same fits =
    subst (λ (bs : List ℕ). SeatsFit high freed passes bs seats) (sym same)
    record {
      some = fits.some;
      passes_long = fits.passes_long;
      bounds_long = fits.bounds_long;
      each = λ i l. up (get_or passes i None) (get_or before i 0) (get_or seats i (Left 0)) (fits.each i l);
    }
  where
    up : (p : Option PassState) (b : ℕ) (s : ScriptSeat) → SeatFits low freed p b s → SeatFits high freed p b s
    up (Some p) b (Staying n) h = (h.0, h.1, omega (arith, h.2, le), h.3)
    up (Some p) b (Left n) h = absurd h
    up None b (Staying n) h = absurd h
    up None b (Left n) h = (h.0, omega (arith, h.1, le), h.2)

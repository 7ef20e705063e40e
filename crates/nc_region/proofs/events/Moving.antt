-- How a thread moves in one event, and what an event does to the bytes.
use Rattle.std.proofs.Common.{◌≡◌, ℕ, ◌-◌, ◌<◌, List, ◌∷◌, ◌++◌, length, get_or, set, Option, Some, None, inl, inr, arith}
use Rattle.std.proofs.Common.{refl, sym, subst}
use Rattle.std.proofs.lemmas.Bool.Decides.{eqb_tells}
use Rattle.std.proofs.lemmas.List.{get_or-set_same, get_or-set_other}
use Rattle.nc_decode.specs.Bundles.{IsLawfulLimit}
use Rattle.nc_text.specs.Places.{InRegion}
use Rattle.nc_text.specs.Machine.{State}
use Rattle.nc_region.specs.schedules.World.{World, Seat, first_seat, first_world, seat_at}
use Rattle.nc_region.specs.schedules.Events.{Event, Steps, Enters, Exits, Takes, Sees, Stores, Leaves, Puts, Serializes, Marks, Bumps, Retires, Frees}
use Rattle.nc_region.specs.schedules.Events.{Looks}
use Rattle.nc_region.specs.schedules.Events.{IsAllowed, after, world_after, AreAllowed, IsMove, AllMove, ChangesBytes}
use Rattle.nc_region.proofs.events.Schedules.{allowed_back}

-- who stays where it is moves as a thread may
pub stays : (w : World) (inside : Option State) → IsMove w inside inside
stays w None = tt
stays w (Some now) = inl refl

-- if one seat's thread moves as a thread may, and the others are as they were, all do
set_moves : (w : World) (seats : List Seat) (k : ℕ) (seat : Seat) → IsMove w (get_or seats k first_seat).inside seat.inside
    → (j : ℕ) → j < length seats → IsMove w (get_or seats j first_seat).inside (get_or (set seats k seat) j first_seat).inside
set_moves w seats k seat move j lt =
    elim (eqb_tells j k) [
      | inl same ↦
          subst (λ (i : ℕ). IsMove w (get_or seats i first_seat).inside (get_or (set seats k seat) i first_seat).inside) (sym same.1)
          (subst (λ (it : Seat). IsMove w (get_or seats k first_seat).inside it.inside)
          (sym (get_or-set_same seats k seat first_seat (omega (arith, lt, same.1)))) move)
      | inr other ↦
          subst (λ (it : Seat). IsMove w (get_or seats j first_seat).inside it.inside)
          (sym (get_or-set_other seats k j seat first_seat other.1)) (stays w (get_or seats j first_seat).inside)
    ]

-- from outside only a bundle start of the region is reached
comes_in : (w : World) (inside : Option State) (next : State) → inside ≡ None → IsMove w None (Some next)
    → IsMove w inside (Some next)
comes_in w inside next is move = subst (λ (z : Option State). IsMove w z (Some next)) (sym is) move

-- at an allowed event all threads move as they may (`AllMove`)
pub moves_event : (w : World) (event : Event) → IsAllowed w event → AllMove w (after w event)
moves_event w (Steps k next) allowed =
    set_moves w w.seats k (record (seat_at w k) { inside = Some next })
    (subst (λ (z : Option State). IsMove w z (Some next)) (sym allowed.1) (inr allowed.2))
moves_event w (Enters k at) allowed =
    set_moves w w.seats k (record (seat_at w k) { inside = Some (record { place = at; masked = None }) })
    (comes_in w (seat_at w k).inside (record { place = at; masked = None }) allowed.0 (allowed.2, allowed.3, refl))
moves_event w (Exits k) allowed = set_moves w w.seats k (record (seat_at w k) { inside = None }) tt
moves_event w (Takes k) allowed = set_moves w w.seats k _ (stays w (seat_at w k).inside)
moves_event w (Sees k) allowed = set_moves w w.seats k _ (stays w (seat_at w k).inside)
moves_event w (Stores k) allowed = set_moves w w.seats k _ (stays w (seat_at w k).inside)
moves_event w (Leaves k) allowed = set_moves w w.seats k _ (stays w (seat_at w k).inside)
moves_event w (Puts at byte) allowed = λ j lt. stays w (seat_at w j).inside
moves_event w Serializes allowed = λ j lt. stays w (seat_at w j).inside
moves_event w (Marks at marks) allowed = λ j lt. stays w (seat_at w j).inside
moves_event w Bumps allowed = λ j lt. stays w (seat_at w j).inside
moves_event w (Retires base len) allowed = λ j lt. stays w (seat_at w j).inside
moves_event w (Frees span) allowed = λ j lt. stays w (seat_at w j).inside
moves_event w (Looks k) allowed = set_moves w w.seats k _ (stays w (seat_at w k).inside)

-- a byte that is put stands there, and no other of the region changes
put_changes : (text : List ℕ) (at byte : ℕ) → InRegion text at → ChangesBytes text (Puts at byte) (set text (at - 65536) byte)
put_changes text at byte inside = (
  get_or-set_same text (at - 65536) byte 0 (omega (arith, inside.0, inside.1)),
  λ place within other. get_or-set_other text (at - 65536) (place - 65536) byte 0
      (λ same. other (omega (arith, inside.0, within.0, same))),
)

-- an allowed event changes the bytes as it may (`ChangesBytes`)
pub bytes_event : (w : World) (event : Event) → IsAllowed w event → ChangesBytes w.marked.bytes event (after w event).marked.bytes
bytes_event w (Steps k next) allowed = refl
bytes_event w (Enters k at) allowed = refl
bytes_event w (Exits k) allowed = refl
bytes_event w (Takes k) allowed = refl
bytes_event w (Sees k) allowed = refl
bytes_event w (Stores k) allowed = refl
bytes_event w (Leaves k) allowed = refl
bytes_event w (Puts at byte) allowed = put_changes w.marked.bytes at byte allowed.0
bytes_event w Serializes allowed = refl
bytes_event w (Marks at marks) allowed = refl
bytes_event w Bumps allowed = refl
bytes_event w (Retires base len) allowed = refl
bytes_event w (Frees span) allowed = refl
bytes_event w (Looks k) allowed = refl

-- at each event of an allowed schedule all threads move as they may (`AllMove`)
pub moves_at : (limit seats : ℕ) (events later : List Event) (event : Event) → IsLawfulLimit limit
    → AreAllowed (first_world limit seats) (events ++ event ∷ later)
    → AllMove (world_after (first_world limit seats) events) (after (world_after (first_world limit seats) events) event)
moves_at limit seats events later event lawful allowed =
    moves_event (world_after (first_world limit seats) events) event
    (allowed_back (first_world limit seats) events (event ∷ later) allowed).0

-- at each event of an allowed schedule the bytes change as they may (`ChangesBytes`)
pub bytes_at : (limit seats : ℕ) (events later : List Event) (event : Event) → IsLawfulLimit limit
    → AreAllowed (first_world limit seats) (events ++ event ∷ later)
    → ChangesBytes (world_after (first_world limit seats) events).marked.bytes event
    (after (world_after (first_world limit seats) events) event).marked.bytes
bytes_at limit seats events later event lawful allowed =
    bytes_event (world_after (first_world limit seats) events) event
    (allowed_back (first_world limit seats) events (event ∷ later) allowed).0

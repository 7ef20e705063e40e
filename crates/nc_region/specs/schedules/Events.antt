-- All events that can happen in a world, one at a time, and when each is allowed.
use Rattle.std.specs.Prelude.{◌≡◌, ◌≢◌, ℕ, ◌+◌, ◌<◌, ◌⊎◌, ⊤, Option, None, true, false, not, List, [], ◌∷◌, All, Contains, filter, length, Some, None, slice_set}
use Rattle.nc_decode.specs.declared.instruction.Mark.{Mark}
use Rattle.nc_decode.specs.Bundles.{IsBundleStart}
use Rattle.nc_text.specs.Places.{InRegion, SpanInRegion, byte_at}
use Rattle.nc_text.specs.Machine.{State, state, Step}
use Rattle.nc_text.specs.MarkedText.{with_byte, with_marks, without_marks, KeepsMarks}
use Rattle.nc_gens.specs.Rule.{generation_taken, generation_seen, since_stored, left_stored, generation_raised, word_taken}
use Rattle.nc_region.specs.schedules.Spans.{RetiredSpan, IsShut}
use Rattle.nc_region.specs.schedules.World.{Seat, World, seat_at, IsViewOf, IsSteady, IsWhole, AreApart, is_same_span, HasPassed}

-- Events of a thread, named by the number of its seat: it `Steps`, `Enters` at a bundle start, or `Exits`; its pass
-- `Takes` the generation as its `since`, `Sees` it, `Stores` its `since` in its word, or `Leaves`. Events of the writer:
-- it `Puts` a byte, `Serializes`, `Marks` a span, `Bumps` the generation, `Retires` a span with the next generation as its
-- stamp, `Frees` it, or `Looks` at a seat's word.
pub data Event : Type 0 where
  Steps : (seat : ℕ) → (next : State) → Event
  Enters : (seat : ℕ) → (at : ℕ) → Event
  Exits : (seat : ℕ) → Event
  Takes : (seat : ℕ) → Event
  Sees : (seat : ℕ) → Event
  Stores : (seat : ℕ) → Event
  Leaves : (seat : ℕ) → Event
  Puts : (at : ℕ) → (byte : ℕ) → Event
  Serializes : Event
  Marks : (at : ℕ) → (marks : List Mark) → Event
  Bumps : Event
  Retires : (base : ℕ) → (len : ℕ) → Event
  Frees : (span : RetiredSpan) → Event
  Looks : (seat : ℕ) → Event

-- the retired span that `Retires` adds, with the next generation as its stamp
abbrev pub new_span : World → ℕ → ℕ → RetiredSpan
new_span w base len = record { base = base; length = len; stamp = w.keeper.generation + 1 }

-- the world with one seat changed
abbrev pub with_seat : World → ℕ → Seat → World
with_seat w k seat = record w { seats = slice_set w.seats k seat }

-- The world after an event. A put adds the bytes as they were before it to the earlier texts, and a serialization drops all of
-- these.
abbrev pub after : World → Event → World
after w (Steps k next) = with_seat w k (record (seat_at w k) { inside = Some next })
after w (Enters k at) = with_seat w k (record (seat_at w k) { inside = Some (state at None) })
after w (Exits k) = with_seat w k (record (seat_at w k) { inside = None })
after w (Takes k) = with_seat w k (record (seat_at w k) { pass = generation_taken w.keeper.generation (seat_at w k).pass })
after w (Sees k) = with_seat w k (record (seat_at w k) { pass = generation_seen w.keeper.generation (seat_at w k).pass })
after w (Stores k) = with_seat w k (record (seat_at w k) { pass = since_stored (seat_at w k).pass; has_left = false })
after w (Leaves k) = with_seat w k (record (seat_at w k) { pass = left_stored (seat_at w k).pass; has_left = true })
after w (Puts at byte) = record w { marked = with_byte w.marked at byte; earlier = w.marked.bytes ∷ w.earlier }
after w Serializes = record w { earlier = [] }
after w (Marks at marks) = record w { marked = with_marks w.marked at marks }
after w Bumps = record w { keeper = generation_raised w.keeper }
after w (Retires base len) = record w { keeper = generation_raised w.keeper; retired = new_span w base len ∷ w.retired }
after w (Frees span) =
    record w { marked = without_marks w.marked span.base span.length; retired = filter (λ other. not (is_same_span span other)) w.retired }
after w (Looks k) =
    let looked = with_seat w k (record (seat_at w k) { found_left = (seat_at w k).has_left }) in
    record looked { keeper = word_taken k (seat_at w k).pass.word w.keeper }

-- What a thread may do. Inside, it may step as the machine does in some view. Outside, it may enter at a bundle start of
-- the region if its seat hasn't left, take the generation, or leave. At any time it may see the generation or exit, and
-- store if its seat hasn't left. An event of a seat that doesn't exist changes no seat. Nothing is required of the writer's
-- events (Ansel et al. 2011).
abbrev pub ThreadMay : World → Event → Type 0
ThreadMay w (Steps k next) =
    (now : State) × ((seat_at w k).inside ≡ Some now) × ((view : List ℕ) × IsViewOf w view × Step view now next)
ThreadMay w (Enters k at) =
    ((seat_at w k).inside ≡ None) × ((seat_at w k).has_left ≡ false) × InRegion w.marked.bytes at × IsBundleStart at
ThreadMay w (Takes k) = (seat_at w k).inside ≡ None
ThreadMay w (Stores k) = (seat_at w k).has_left ≡ false
ThreadMay w (Leaves k) = (seat_at w k).inside ≡ None
ThreadMay w _ = ⊤

-- When an event may happen. A put or a marking must lie in the region and leave the world steady, and a marking must keep
-- the marks that are there (`KeepsMarks`). A span may be retired if it consists of whole bundles of the region, overlaps
-- no retired span, and is shut in every view. A retired span may be freed if no seat holds its stamp back (`HasPassed`). A
-- thread may do what `ThreadMay` says; other events of the writer are always allowed (Ansel et al. 2011).
abbrev pub IsAllowed : World → Event → Type 0
IsAllowed w (Puts at byte) = InRegion w.marked.bytes at × IsSteady (after w (Puts at byte))
IsAllowed w (Marks at marks) =
    SpanInRegion w.marked.bytes at (length marks) × KeepsMarks w.marked.marks (with_marks w.marked at marks).marks
    × IsSteady (after w (Marks at marks))
IsAllowed w (Retires base len) =
    IsWhole w.marked.bytes (new_span w base len) × All (AreApart (new_span w base len)) w.retired
    × ((view : List ℕ) → IsViewOf w view → IsShut view w.marked.marks (new_span w base len))
IsAllowed w (Frees span) = Contains w.retired span × HasPassed w span.stamp
IsAllowed w event = ThreadMay w event

-- the world after these events
abbrev pub world_after : World → List Event → World
world_after w [] = w
world_after w (event ∷ events) = world_after (after w event) events

-- each of these events is allowed in the world that the events before it leave
abbrev pub AreAllowed : World → List Event → Type 0
AreAllowed w [] = ⊤
AreAllowed w (event ∷ events) = IsAllowed w event × AreAllowed (after w event) events

-- how a thread may move in one event: it stays, takes a step of the machine in some view, enters at a bundle start of the
-- region with no register masked, or is outside afterwards
abbrev pub IsMove : World → Option State → Option State → Type 0
IsMove w now None = ⊤
IsMove w None (Some next) = InRegion w.marked.bytes next.place × IsBundleStart next.place × (next.masked ≡ None)
IsMove w (Some now) (Some next) = (next ≡ now) ⊎ ((view : List ℕ) × IsViewOf w view × Step view now next)

-- the thread of each seat stays, takes a step of the machine in some view, enters at a bundle start of the region with no
-- register masked, or is outside afterwards
abbrev pub AllMove : World → World → Type 0
AllMove before w = (k : ℕ) → k < length before.seats → IsMove before (seat_at before k).inside (seat_at w k).inside

-- the effect of an event on the bytes: a put stores its byte at its place and leaves every other place of the region as it
-- was; no other event changes a byte
abbrev pub ChangesBytes : List ℕ → Event → List ℕ → Type 0
ChangesBytes old (Puts at byte) new =
    (byte_at new at ≡ byte) × ((place : ℕ) → InRegion old place → place ≢ at → byte_at new place ≡ byte_at old place)
ChangesBytes old _ new = new ≡ old

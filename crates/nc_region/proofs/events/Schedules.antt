-- What a schedule keeps, and what follows for its threads.
use Rattle.std.proofs.Common.{◌≡◌, ℕ, ◌<◌, false, All, List, [], ◌∷◌, ◌++◌, get_or, replicate, arith, refl, ◌∙◌, sym, subst}
use Rattle.std.specs.Prelude.{IfSome}
use Rattle.std.proofs.lemmas.List.{length-replicate, get_or-replicate}
use Rattle.std.proofs.lemmas.List.Elements.{All-nil, All-from_get_or}
use Rattle.std.proofs.lemmas.Option.{IfSome_then}
use Rattle.nc_decode.specs.Bundles.{IsLawfulLimit}
use Rattle.nc_text.specs.Machine.{IsSafe}
use Rattle.nc_text.proofs.Offered.{IsKnown, safe_if_known, new_is_text}
use Rattle.nc_text.specs.Marks.{IsClosed}
use Rattle.nc_text.specs.MarkedText.{unused_text}
use Rattle.nc_region.specs.schedules.Spans.{RetiredSpan, IsShut}
use Rattle.nc_region.specs.schedules.World.{World, Seat, first_seat, first_world, seat_at, IsViewOf, IsWhole, AreApart, is_same_span}
use Rattle.nc_region.specs.schedules.World.{IsUsable, AllStandSafe, NoneIsWithin}
use Rattle.nc_region.specs.schedules.Events.{Event, Steps, Enters, Exits, Takes, Sees, Stores, Leaves, Puts, Serializes, Marks, Bumps, Retires, Frees}
use Rattle.nc_region.specs.schedules.Events.{Looks}
use Rattle.nc_region.specs.schedules.Events.{IsAllowed, after, world_after, AreAllowed}
use Rattle.nc_region.proofs.events.Invariant.{Keeps, SeatKeeps}
use Rattle.nc_region.proofs.events.Seeing.{only_as_it_stands}
use Rattle.nc_region.proofs.events.ThreadEvents.{keeps_steps, keeps_enters, keeps_exits, keeps_takes, keeps_sees, keeps_stores, keeps_leaves}
use Rattle.nc_region.proofs.events.WriterEvents.{keeps_puts, keeps_serializes, keeps_marks, keeps_bumps, keeps_retires, keeps_frees, keeps_looks}
use Rattle.nc_region.proofs.events.WriterEvents.{none_is_within, freed_is_usable}

-- the world's invariant (`Keeps`) stays at each allowed event
pub keeps_event : (w : World) (event : Event) → Keeps w → IsAllowed w event → Keeps (after w event)
keeps_event w (Steps k next) keeps allowed = keeps_steps w k next keeps allowed
keeps_event w (Enters k at) keeps allowed = keeps_enters w k at keeps allowed
keeps_event w (Exits k) keeps allowed = keeps_exits w k keeps
keeps_event w (Takes k) keeps allowed = keeps_takes w k keeps allowed
keeps_event w (Sees k) keeps allowed = keeps_sees w k keeps
keeps_event w (Stores k) keeps allowed = keeps_stores w k keeps allowed
keeps_event w (Leaves k) keeps allowed = keeps_leaves w k keeps allowed
keeps_event w (Puts at byte) keeps allowed = keeps_puts w at byte keeps allowed
keeps_event w Serializes keeps allowed = keeps_serializes w keeps
keeps_event w (Marks at marks) keeps allowed = keeps_marks w at marks keeps allowed
keeps_event w Bumps keeps allowed = keeps_bumps w keeps
keeps_event w (Retires base len) keeps allowed = keeps_retires w base len keeps allowed
keeps_event w (Frees span) keeps allowed = keeps_frees w span keeps allowed
keeps_event w (Looks k) keeps allowed = keeps_looks w k keeps

-- the world's invariant stays over allowed events
pub keeps_all : (w : World) (events : List Event) → Keeps w → AreAllowed w events → Keeps (world_after w events)
keeps_all w [] keeps allowed = keeps
keeps_all w (event ∷ events) keeps allowed = keeps_all (after w event) events (keeps_event w event keeps allowed.0) allowed.1

-- the first world has the world's invariant
pub keeps_first : (limit seats : ℕ) → IsLawfulLimit limit → Keeps (first_world limit seats)
keeps_first limit seats lawful =
    let whole = new_is_text limit lawful in
    record {
      as_long = whole.as_long;
      closed = λ view v. subst (λ (text : List ℕ). IsClosed text (unused_text limit).marks)
          (sym (only_as_it_stands (unused_text limit).bytes view v)) whole.closed;
      shut = λ view v. All-nil (IsShut view (unused_text limit).marks);
      whole = All-nil (IsWhole (unused_text limit).bytes);
      apart = All-nil (λ (one : RetiredSpan). All (λ (other : RetiredSpan). is_same_span one other ≡ false → AreApart one other) []);
      bounds = length-replicate {A = ℕ} seats 0 ∙ sym (length-replicate seats first_seat);
      seats = λ k lt.
          let inside : k < seats = omega (arith, lt, length-replicate seats first_seat) in
          subst (SeatKeeps (unused_text limit).marks [] 0 (get_or (replicate seats 0) k 0))
          (sym (get_or-replicate seats k first_seat first_seat inside))
          (record {
            stands = tt;
            early = tt;
            since = omega arith;
            word = λ is. omega arith;
            out = λ is. refl;
            found = λ is. is;
            bound_is = λ is. omega (arith, get_or-replicate {A = ℕ} seats k 0 0 inside);
          });
    }

-- events allowed after allowed ones are allowed with them
pub allowed_append : (w : World) (events later : List Event) → AreAllowed w events → AreAllowed (world_after w events) later
    → AreAllowed w (events ++ later)
allowed_append w [] later a b = b
allowed_append w (event ∷ events) later a b = (a.0, allowed_append (after w event) events later a.1 b)

-- the first events of an allowed schedule are allowed
pub allowed_front : (w : World) (events later : List Event) → AreAllowed w (events ++ later) → AreAllowed w events
allowed_front w [] later a = tt
allowed_front w (event ∷ events) later a = (a.0, allowed_front (after w event) events later a.1)

-- the later events of an allowed schedule are allowed where they stand
pub allowed_back : (w : World) (events later : List Event) → AreAllowed w (events ++ later) → AreAllowed (world_after w events) later
allowed_back w [] later a = a
allowed_back w (event ∷ events) later a = allowed_back (after w event) events later a.1

-- the world after two lists of events is that after the one and then the other
pub after_append : (w : World) (events later : List Event) → world_after w (events ++ later) ≡ world_after (world_after w events) later
after_append w [] later = refl
after_append w (event ∷ events) later = after_append (after w event) events later

-- every world that a schedule reaches has the world's invariant
pub keeps_reached : (limit seats : ℕ) (events : List Event) → IsLawfulLimit limit → AreAllowed (first_world limit seats) events
    → Keeps (world_after (first_world limit seats) events)
keeps_reached limit seats events lawful allowed = keeps_all (first_world limit seats) events (keeps_first limit seats lawful) allowed

-- each thread stands on a safe state
pub stand_safe : (w : World) → Keeps w → AllStandSafe w
stand_safe w keeps =
    All-from_get_or (λ (seat : Seat). IfSome seat.inside (λ now. (view : List ℕ) → IsViewOf w view → IsSafe view now)) w.seats first_seat
    (λ k lt. IfSome_then (seat_at w k).inside
    {P = (IsKnown w.marked.marks)}
    {Q = (λ now. (view : List ℕ) → IsViewOf w view → IsSafe view now)}
    (keeps.seats k lt).stands (λ now known view v. safe_if_known view w.marked.marks (keeps.closed view v) now known))

-- after every event of an allowed schedule each thread stands on a safe state
pub safe_after : (limit seats : ℕ) (events later : List Event) → IsLawfulLimit limit
    → AreAllowed (first_world limit seats) (events ++ later) → AllStandSafe (world_after (first_world limit seats) events)
safe_after limit seats events later lawful allowed =
    stand_safe (world_after (first_world limit seats) events)
    (keeps_reached limit seats events lawful (allowed_front (first_world limit seats) events later allowed))

-- no thread stands within a span when it is freed in an allowed schedule
pub none_is_within_freed : (limit seats : ℕ) (events later : List Event) (span : RetiredSpan) → IsLawfulLimit limit
    → AreAllowed (first_world limit seats) (events ++ Frees span ∷ later)
    → NoneIsWithin (world_after (first_world limit seats) events) span
none_is_within_freed limit seats events later span lawful allowed =
    none_is_within (world_after (first_world limit seats) events) span
    (keeps_reached limit seats events lawful (allowed_front (first_world limit seats) events (Frees span ∷ later) allowed))
    (allowed_back (first_world limit seats) events (Frees span ∷ later) allowed).0

-- a span that was freed in an allowed schedule may be used again
pub usable_after_freed : (limit seats : ℕ) (events later : List Event) (span : RetiredSpan) → IsLawfulLimit limit
    → AreAllowed (first_world limit seats) (events ++ Frees span ∷ later)
    → IsUsable (world_after (first_world limit seats) (events ++ Frees span ∷ [])) span
usable_after_freed limit seats events later span lawful allowed =
    let w = world_after (first_world limit seats) events in
    subst (λ (now : World). IsUsable now span) (sym (after_append (first_world limit seats) events (Frees span ∷ [])))
    (freed_is_usable w span
    (keeps_reached limit seats events lawful (allowed_front (first_world limit seats) events (Frees span ∷ later) allowed))
    (allowed_back (first_world limit seats) events (Frees span ∷ later) allowed).0)

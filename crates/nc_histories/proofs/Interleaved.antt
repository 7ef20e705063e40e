-- Events of threads between those of the writer.
use Rattle.std.proofs.Common.{◌≡◌, true, List, [], ◌∷◌, ◌++◌, refl, ◌∙◌, sym, ap, subst}
use Rattle.std.specs.Prelude.{⊤}
use Rattle.nc_region.specs.schedules.World.{World, Seat}
use Rattle.nc_region.specs.schedules.Events.{Event, Steps, Enters, Exits, Takes, Sees, Stores, Leaves, Puts, Serializes, Marks, Bumps, Retires, Frees}
use Rattle.nc_region.specs.schedules.Events.{Looks}
use Rattle.nc_region.specs.schedules.Events.{IsAllowed, after, world_after, AreAllowed}
use Rattle.nc_histories.specs.Interleaving.{is_writers, writers, ThreadsMay}
use Rattle.nc_histories.specs.Histories.{AreAttempts, NoneYet, OneMore}
use Rattle.nc_histories.proofs.StaysWhole.{StaysWhole, whole_first}

-- the world with these seats
abbrev pub seated : World → List Seat → World
seated w seats = record w { seats = seats }

-- the event is a put, a serialization or a marking, or raises the generation
abbrev pub IsPlain : Event → Type 0
IsPlain (Puts at byte) = ⊤
IsPlain Serializes = ⊤
IsPlain (Marks at marks) = ⊤
IsPlain Bumps = ⊤
IsPlain (Retires base len) = ⊤
IsPlain event = ⊥

-- each of the events is plain
abbrev pub ArePlain : List Event → Type 0
ArePlain [] = ⊤
ArePlain (event ∷ events) = IsPlain event × ArePlain events

-- the first of some plain events are plain
pub plain_front : (events later : List Event) → ArePlain (events ++ later) → ArePlain events
plain_front [] later plain = tt
plain_front (event ∷ events) later plain = (plain.0, plain_front events later plain.1)

-- plain events before others
plain_append : (events later : List Event) → ArePlain events → ArePlain later → ArePlain (events ++ later)
plain_append [] later first plain = plain
plain_append (event ∷ events) later first plain = (first.0, plain_append events later first.1 plain)

-- attempts at plain events are plain
pub plain_attempts : (events made : List Event) → AreAttempts events made → ArePlain events → ArePlain made
plain_attempts events [] NoneYet plain = tt
plain_attempts events _ (OneMore {earlier} first part rest same) plain =
    plain_append earlier part (plain_attempts events earlier first plain) (plain_front part rest (subst ArePlain (sym same) plain))

-- attempts at plain events are plain before plain ones
pub plain_again : (events made later : List Event) → AreAttempts events made → ArePlain events → ArePlain later → ArePlain (made ++ later)
plain_again events made later attempts plain more = plain_append made later (plain_attempts events made attempts plain) more

-- Events that are allowed, and after which the world is the one that the writer's events leave, but for the seats. If what views have at
-- marked places stood there whole after each of the writer's events, it did after every event.
pub record Interleaved (w : World) (seats : List Seat) (events : List Event) : Type 0 where
  pub allowed : AreAllowed (seated w seats) events
  pub whole : StaysWhole w (writers events) → StaysWhole (seated w seats) events
  pub seats_after : List Seat
  pub after_is : world_after (seated w seats) events ≡ seated (world_after w (writers events)) seats_after

-- interleaved events stay interleaved with one more event of the writer in front
pub writer_more : (w : World) (seats : List Seat) (event : Event) (events : List Event) → is_writers event ≡ true
    → IsAllowed (seated w seats) event → after (seated w seats) event ≡ seated (after w event) seats
    → writers (event ∷ events) ≡ event ∷ writers events → Interleaved (after w event) seats events → Interleaved w seats (event ∷ events)
writer_more w seats event events is allowed same list rest =
    record {
      allowed = (allowed, subst (λ (x : World). AreAllowed x events) (sym same) rest.allowed);
      whole = λ whole.
          let own = subst (StaysWhole w) list whole in
          (own.0, subst (λ (x : World). StaysWhole x events) (sym same) (rest.whole own.1));
      seats_after = rest.seats_after;
      after_is = ap (λ (x : World). world_after x events) same
          ∙ (rest.after_is ∙ ap (λ (z : List Event). seated (world_after w z) rest.seats_after) (sym list));
    }

-- interleaved events stay interleaved with one more event of a thread in front
pub thread_more : (w : World) (seats later : List Seat) (event : Event) (events : List Event)
    → IsAllowed (seated w seats) event → after (seated w seats) event ≡ seated w later
    → writers (event ∷ events) ≡ writers events → Interleaved w later events → Interleaved w seats (event ∷ events)
thread_more w seats later event events allowed same list rest =
    record {
      allowed = (allowed, subst (λ (x : World). AreAllowed x events) (sym same) rest.allowed);
      whole = λ whole.
          let own = subst (StaysWhole w) list whole in
          (whole_first w (writers events) own, subst (λ (x : World). StaysWhole x events) (sym same) (rest.whole own));
      seats_after = rest.seats_after;
      after_is = ap (λ (x : World). world_after x events) same
          ∙ (rest.after_is ∙ ap (λ (z : List Event). seated (world_after w z) rest.seats_after) (sym list));
    }

-- where the writer's events are allowed by themselves, all are
pub interleave : (w : World) (seats : List Seat) (events : List Event) → ArePlain (writers events) → AreAllowed w (writers events)
    → ThreadsMay (seated w seats) events → Interleaved w seats events
interleave w seats [] plain allowed threads = record { allowed = tt; whole = λ whole. whole; seats_after = seats; after_is = refl }
interleave w seats (Steps k next ∷ events) plain allowed threads =
    thread_more w seats _ (Steps k next) events (threads.0 refl) refl refl (interleave w _ events plain allowed threads.1)
interleave w seats (Enters k at ∷ events) plain allowed threads =
    thread_more w seats _ (Enters k at) events (threads.0 refl) refl refl (interleave w _ events plain allowed threads.1)
interleave w seats (Exits k ∷ events) plain allowed threads =
    thread_more w seats _ (Exits k) events (threads.0 refl) refl refl (interleave w _ events plain allowed threads.1)
interleave w seats (Takes k ∷ events) plain allowed threads =
    thread_more w seats _ (Takes k) events (threads.0 refl) refl refl (interleave w _ events plain allowed threads.1)
interleave w seats (Sees k ∷ events) plain allowed threads =
    thread_more w seats _ (Sees k) events (threads.0 refl) refl refl (interleave w _ events plain allowed threads.1)
interleave w seats (Stores k ∷ events) plain allowed threads =
    thread_more w seats _ (Stores k) events (threads.0 refl) refl refl (interleave w _ events plain allowed threads.1)
interleave w seats (Leaves k ∷ events) plain allowed threads =
    thread_more w seats _ (Leaves k) events (threads.0 refl) refl refl (interleave w _ events plain allowed threads.1)
interleave w seats (Puts at byte ∷ events) plain allowed threads =
    writer_more w seats (Puts at byte) events refl allowed.0 refl refl
    (interleave (after w (Puts at byte)) seats events plain.1 allowed.1 threads.1)
interleave w seats (Serializes ∷ events) plain allowed threads =
    writer_more w seats Serializes events refl allowed.0 refl refl
    (interleave (after w Serializes) seats events plain.1 allowed.1 threads.1)
interleave w seats (Marks at marks ∷ events) plain allowed threads =
    writer_more w seats (Marks at marks) events refl allowed.0 refl refl
    (interleave (after w (Marks at marks)) seats events plain.1 allowed.1 threads.1)
interleave w seats (Bumps ∷ events) plain allowed threads =
    writer_more w seats Bumps events refl allowed.0 refl refl (interleave (after w Bumps) seats events plain.1 allowed.1 threads.1)
interleave w seats (Retires base len ∷ events) plain allowed threads =
    writer_more w seats (Retires base len) events refl allowed.0 refl refl
    (interleave (after w (Retires base len)) seats events plain.1 allowed.1 threads.1)
interleave w seats (Frees span ∷ events) plain allowed threads = absurd plain.0
interleave w seats (Looks k ∷ events) plain allowed threads = absurd plain.0

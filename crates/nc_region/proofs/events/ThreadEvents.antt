-- What a thread does keeps the world.
use Rattle.std.proofs.Common.{◌≡◌, ℕ, ◌<◌, ◌≤◌, Bool, true, false, Some, None, inl, inr, arith, refl, ◌∙◌, sym}
use Rattle.std.proofs.lemmas.Bool.{false≢true}
use Rattle.std.proofs.lemmas.List.Elements.{All-weaker}
use Rattle.nc_text.specs.Machine.{State, state}
use Rattle.nc_text.specs.Marks.{IsMarked}
use Rattle.nc_text.proofs.Offered.{IsKnown, start_is_marked}
use Rattle.nc_gens.specs.Rule.{generation_taken, generation_seen, left_word}
use Rattle.nc_region.specs.schedules.Spans.{RetiredSpan, IsWithin, IsShut}
use Rattle.nc_region.specs.schedules.World.{World, seat_at}
use Rattle.nc_region.specs.schedules.Events.{Steps, Enters, Exits, Takes, Sees, Stores, Leaves, IsAllowed, after, with_seat}
use Rattle.nc_region.proofs.events.Invariant.{Keeps, CameBefore, if_none, some_at, none_is_some, with_seat_keeps}
use Rattle.nc_region.proofs.events.Seeing.{as_it_stands}
use Rattle.nc_region.proofs.events.Unmarking.{none_steps_in}

-- the world's invariant stays when a thread takes a step
pub keeps_steps : (w : World) (k : ℕ) (next : State) → Keeps w → IsAllowed w (Steps k next) → Keeps (after w (Steps k next))
keeps_steps w k next keeps allowed =
    with_seat_keeps w k (record (seat_at w k) { inside = Some next }) keeps
    (λ lt.
    let s = keeps.seats k lt in
    let now = allowed.0 in
    let view = allowed.2.0 in
    let seen = allowed.2.1 in
    let step = allowed.2.2 in
    let known = some_at (seat_at w k).inside (IsKnown w.marked.marks) now allowed.1 s.stands in
    let m : IsMarked w.marked.marks now = elim known [ inl m ↦ m | inr zone ↦ absurd (omega (arith, zone.0, step.0.0)) ] in
    record {
      stands = (keeps.closed view seen).steps now next m step;
      early = All-weaker (IsShut view w.marked.marks)
          (λ (span : RetiredSpan). IsWithin span next.place → (seat_at w k).pass.since < span.stamp)
          (λ span shut within. absurd
          (none_steps_in view w.marked.marks span shut now next m step within)) w.retired (keeps.shut view seen);
      since = s.since;
      word = s.word;
      out = λ is. absurd (none_is_some now (sym (s.out is) ∙ allowed.1));
      found = s.found;
      bound_is = s.bound_is;
    })

-- the world's invariant stays when a thread enters
pub keeps_enters : (w : World) (k at : ℕ) → Keeps w → IsAllowed w (Enters k at) → Keeps (after w (Enters k at))
keeps_enters w k at keeps allowed =
    with_seat_keeps w k (record (seat_at w k) { inside = Some (state at None) }) keeps
    (λ lt.
    let s = keeps.seats k lt in
    record {
      stands = inl (start_is_marked w.marked.bytes w.marked.marks
          (keeps.closed w.marked.bytes (as_it_stands w.marked.bytes w.earlier)) (state at None) allowed.2 allowed.3);
      early = All-weaker (IsShut w.marked.bytes w.marked.marks)
          (λ (span : RetiredSpan). IsWithin span at → (seat_at w k).pass.since < span.stamp)
          (λ span shut within. absurd (within.1 allowed.3)) w.retired
          (keeps.shut w.marked.bytes (as_it_stands w.marked.bytes w.earlier));
      since = s.since;
      word = s.word;
      out = λ is. absurd (false≢true (sym allowed.1 ∙ is));
      found = s.found;
      bound_is = s.bound_is;
    })

-- the world's invariant stays when a thread goes outside
pub keeps_exits : (w : World) (k : ℕ) → Keeps w → Keeps (after w (Exits k))
keeps_exits w k keeps =
    with_seat_keeps w k (record (seat_at w k) { inside = None }) keeps
    (λ lt.
    let s = keeps.seats k lt in
    record { stands = tt; early = tt; since = s.since; word = s.word; out = λ is. refl; found = s.found; bound_is = s.bound_is })

-- the world's invariant stays when a pass takes the generation
pub keeps_takes : (w : World) (k : ℕ) → Keeps w → IsAllowed w (Takes k) → Keeps (after w (Takes k))
keeps_takes w k keeps allowed =
    with_seat_keeps w k (record (seat_at w k) { pass = generation_taken w.keeper.generation (seat_at w k).pass }) keeps
    (λ lt.
    let s = keeps.seats k lt in
    record {
      stands = s.stands;
      early = if_none (seat_at w k).inside (CameBefore w.keeper.generation w.retired) allowed;
      since = omega arith;
      word = λ is. omega (arith, s.word is, s.since);
      out = s.out;
      found = s.found;
      bound_is = λ is. omega (arith, s.bound_is is, s.since);
    })

-- the world's invariant stays when a pass sees the generation
pub keeps_sees : (w : World) (k : ℕ) → Keeps w → Keeps (after w (Sees k))
keeps_sees w k keeps =
    with_seat_keeps w k (record (seat_at w k) { pass = generation_seen w.keeper.generation (seat_at w k).pass }) keeps
    (λ lt.
    let s = keeps.seats k lt in
    record {
      stands = s.stands;
      early = s.early;
      since = s.since;
      word = s.word;
      out = s.out;
      found = s.found;
      bound_is = s.bound_is;
    })

-- the world's invariant stays when a pass changes its word, and perhaps leaves by that
keeps_word : (w : World) (k word : ℕ) (left : Bool) → Keeps w → (left ≡ false → word ≤ (seat_at w k).pass.since)
    → (left ≡ true → (seat_at w k).inside ≡ None) → ((seat_at w k).has_left ≡ true → left ≡ true)
    → Keeps (with_seat w k (record (seat_at w k) { pass = record ((seat_at w k).pass) { word = word }; has_left = left }))
keeps_word w k word left keeps small out stays =
    with_seat_keeps w k (record (seat_at w k) { pass = record ((seat_at w k).pass) { word = word }; has_left = left }) keeps
    (λ lt.
    let s = keeps.seats k lt in
    record {
      stands = s.stands;
      early = s.early;
      since = s.since;
      word = small;
      out = out;
      found = λ is. stays (s.found is);
      bound_is = s.bound_is;
    })

-- the world's invariant stays when a pass that hasn't left stores what it took
pub keeps_stores : (w : World) (k : ℕ) → Keeps w → IsAllowed w (Stores k) → Keeps (after w (Stores k))
keeps_stores w k keeps allowed =
    keeps_word w k (seat_at w k).pass.since false keeps (λ is. omega arith) (λ is. absurd (false≢true is))
    (λ is. absurd (false≢true (sym allowed ∙ is)))

-- the world's invariant stays when a pass leaves
pub keeps_leaves : (w : World) (k : ℕ) → Keeps w → IsAllowed w (Leaves k) → Keeps (after w (Leaves k))
keeps_leaves w k keeps allowed =
    keeps_word w k left_word true keeps (λ is. absurd (false≢true (sym is))) (λ is. allowed) (λ is. refl)

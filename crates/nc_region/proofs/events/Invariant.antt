-- What every event keeps.
use Rattle.std.proofs.Common.{◌≡◌, ℕ, ◌<◌, ◌≤◌, true, false, All, List, length, get_or, set, Option, Some, None, inl, inr, arith, ◌∙◌}
use Rattle.std.proofs.Common.{sym, subst}
use Rattle.std.specs.Prelude.{IfSome, slice_index}
use Rattle.std.proofs.lemmas.Bool.Decides.{eqb_tells}
use Rattle.std.proofs.lemmas.List.{length-set, get_or-set_same, get_or-set_other}
use Rattle.nc_decode.specs.declared.instruction.Mark.{Mark}
use Rattle.nc_text.specs.Machine.{State}
use Rattle.nc_text.specs.Marks.{IsClosed}
use Rattle.nc_text.proofs.Offered.{IsKnown}
use Rattle.nc_region.specs.schedules.Spans.{RetiredSpan, IsWithin, IsShut}
use Rattle.nc_region.specs.schedules.World.{World, Seat, first_seat, seat_at, IsViewOf, IsWhole, AreApart, is_same_span}
use Rattle.nc_region.specs.schedules.Events.{with_seat}

-- whoever stands within a retired span came before its stamp
abbrev pub CameBefore : ℕ → List RetiredSpan → State → Type 0
CameBefore since retired now = All (λ (span : RetiredSpan). IsWithin span now.place → since < span.stamp) retired

-- What is kept of a seat, over the world's marks, spans and generation and the keeper's bound for it: its thread stands
-- where a mark is or in the zone, and not within a span that was retired before it came; until it leaves its word is at
-- most its `since`, and a seat that has left is outside; until the keeper finds that, its bound is at most `since`.
pub record SeatKeeps (marks : List Mark) (retired : List RetiredSpan) (generation bound : ℕ) (seat : Seat) : Type 0 where
  pub stands : IfSome seat.inside (IsKnown marks)
  pub early : IfSome seat.inside (CameBefore seat.pass.since retired)
  pub since : seat.pass.since ≤ generation
  pub word : seat.has_left ≡ false → seat.pass.word ≤ seat.pass.since
  pub out : seat.has_left ≡ true → seat.inside ≡ None
  pub found : seat.found_left ≡ true → seat.has_left ≡ true
  pub bound_is : seat.found_left ≡ false → bound ≤ seat.pass.since

-- any two of the retired spans that aren't the same have no place in common
abbrev pub OthersApart : List RetiredSpan → Type 0
OthersApart retired =
    All (λ (one : RetiredSpan). All (λ (other : RetiredSpan). is_same_span one other ≡ false → AreApart one other) retired) retired

-- what is kept of a seat is kept of each (`SeatKeeps`)
abbrev pub SeatsKeep : World → List Mark → List RetiredSpan → ℕ → Type 0
SeatsKeep w marks retired generation =
    (k : ℕ) → k < length w.seats → SeatKeeps marks retired generation (slice_index w.keeper.bounds k) (seat_at w k)

-- what is kept of a world
pub record Keeps (w : World) : Type 0 where
  pub as_long : length w.marked.marks ≡ length w.marked.bytes
  pub closed : (view : List ℕ) → IsViewOf w view → IsClosed view w.marked.marks
  pub shut : (view : List ℕ) → IsViewOf w view → All (IsShut view w.marked.marks) w.retired
  pub whole : All (IsWhole w.marked.bytes) w.retired
  pub apart : OthersApart w.retired
  pub bounds : length w.keeper.bounds ≡ length w.seats
  pub seats : SeatsKeep w w.marked.marks w.retired w.keeper.generation

-- where there is nothing, any property holds of what is there
pub if_none : {X : Type 0} (o : Option X) (P : X → Type 0) → o ≡ None → IfSome o P
if_none {X} o P is = subst (λ (z : Option X). IfSome z P) (sym is) tt

-- what holds of what is there holds of a value that is there
pub some_at : {X : Type 0} (o : Option X) (P : X → Type 0) (x : X) → o ≡ Some x → IfSome o P → P x
some_at {X} o P x is h = subst (λ (z : Option X). IfSome z P) is h

-- something is not nothing
pub none_is_some : {X : Type 0} (x : X) → None ≡ Some x → ⊥
none_is_some x is = cc is

-- of a seat list with one seat set, the seat of a number is the new one or the old
set_seat : (P : ℕ → Seat → Type 0) (seats : List Seat) (k : ℕ) (seat : Seat) → (k < length seats → P k seat)
    → ((j : ℕ) → j < length seats → P j (get_or seats j first_seat)) → (j : ℕ) → j < length (set seats k seat)
    → P j (get_or (set seats k seat) j first_seat)
set_seat P seats k seat p each j lt =
    let inside : j < length seats = omega (arith, length-set seats k seat) in
    elim (eqb_tells j k) [
      | inl same ↦
          subst (λ (i : ℕ). P i (get_or (set seats k seat) i first_seat)) (sym same.1)
          (subst (P k) (sym (get_or-set_same seats k seat first_seat (omega (arith, inside, same.1)))) (p (omega (arith, inside, same.1))))
      | inr other ↦ subst (P j) (sym (get_or-set_other seats k j seat first_seat other.1)) (each j inside)
    ]

-- one seat is changed, if there is one of this number
pub with_seat_keeps : (w : World) (k : ℕ) (seat : Seat) → Keeps w
    → (k < length w.seats → SeatKeeps w.marked.marks w.retired w.keeper.generation (slice_index w.keeper.bounds k) seat)
    → Keeps (with_seat w k seat)
with_seat_keeps w k seat keeps s =
    record {
      as_long = keeps.as_long;
      closed = keeps.closed;
      shut = keeps.shut;
      whole = keeps.whole;
      apart = keeps.apart;
      bounds = keeps.bounds ∙ sym (length-set w.seats k seat);
      seats = set_seat
          (λ j t. SeatKeeps w.marked.marks w.retired w.keeper.generation (slice_index w.keeper.bounds j) t) w.seats k seat s keeps.seats;
    }

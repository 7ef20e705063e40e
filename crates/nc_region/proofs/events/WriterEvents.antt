-- What the writer does keeps the world.
use Rattle.std.proofs.Common.{◌≡◌, ℕ, ◌+◌, ◌-◌, ◌<◌, ◌≤◌, ◌⊎◌, Bool, true, false, not, All, List, [], ◌∷◌, ◌++◌, length, get_or, set}
use Rattle.std.proofs.Common.{take, drop, Option, Some, None, inl, inr, arith, refl, ◌∙◌, sym, ap, subst}
use Rattle.std.specs.Prelude.{IfSome, Contains, filter, slice_index}
use Rattle.std.proofs.lemmas.Bool.{false≢true}
use Rattle.std.proofs.lemmas.Bool.Decides.{eqb_tells, nat_tests}
use Rattle.std.proofs.lemmas.List.{length-set, get_or-set_same, get_or-set_other, take-append-drop}
use Rattle.std.proofs.lemmas.List.Elements.{All-weaker, All-cons, All-filter, All-contains, All-contains_itself, All-from_get_or, filter_passes}
use Rattle.std.proofs.lemmas.Option.{IfSome_then}
use Rattle.nc_decode.specs.declared.instruction.Mark.{Mark}
use Rattle.nc_decode.specs.declared.instruction.Mark.TheVariants.{Unmarked, Plain, After}
use Rattle.nc_base.proofs.Offered.{not_is}
use Rattle.nc_text.specs.Machine.{State}
use Rattle.nc_text.specs.Marks.{Admits, mark_at}
use Rattle.nc_text.specs.MarkedText.{MarkedText, with_marks, with_span, StaysOrPlain}
use Rattle.nc_text.proofs.Offered.{IsKnown, length-with_span}
use Rattle.nc_region.specs.schedules.Spans.{RetiredSpan, IsWithin, IsShut}
use Rattle.nc_region.specs.schedules.World.{World, Seat, first_seat, seat_at, IsViewOf, IsWhole, AreApart, IsUsable, is_same_span, NoneIsWithin}
use Rattle.nc_region.specs.schedules.Events.{Puts, Serializes, Marks, Bumps, Retires, Frees, Looks, IsAllowed, after, new_span}
use Rattle.nc_region.proofs.events.Invariant.{Keeps, SeatKeeps, OthersApart, CameBefore, some_at, none_is_some}
use Rattle.nc_region.proofs.events.Unmarking.{MayFree, freed_marks, freed_long, freed_stays, freed_closed, freed_shut}
use Rattle.nc_region.proofs.events.Seeing.{as_it_stands, serialized_view}

-- the world's invariant stays when a byte is put
pub keeps_puts : (w : World) (at byte : ℕ) → Keeps w → IsAllowed w (Puts at byte) → Keeps (after w (Puts at byte))
keeps_puts w at byte keeps allowed =
    let long = length-set w.marked.bytes (at - 65536) byte in
    record {
      as_long = keeps.as_long ∙ sym long;
      closed = λ view v. (allowed.1 view v).0;
      shut = λ view v. (allowed.1 view v).1;
      whole = All-weaker (IsWhole w.marked.bytes) (IsWhole (set w.marked.bytes (at - 65536) byte))
          (λ span h. record {
            start = h.start;
            bundles = h.bundles;
            low = h.low;
            high = omega
                (arith, h.high, long);
          }) w.retired keeps.whole;
      apart = keeps.apart;
      bounds = keeps.bounds;
      seats = keeps.seats;
    }

-- the world's invariant stays at a serialization: what was read before may not be read any more
pub keeps_serializes : (w : World) → Keeps w → Keeps (after w Serializes)
keeps_serializes w keeps =
    record {
      as_long = keeps.as_long;
      closed = λ view v. keeps.closed view (serialized_view w.marked.bytes w.earlier view v);
      shut = λ view v. keeps.shut view (serialized_view w.marked.bytes w.earlier view v);
      whole = keeps.whole;
      apart = keeps.apart;
      bounds = keeps.bounds;
      seats = keeps.seats;
    }

-- a mark that stays or becomes plain stands for what it stood for
still_admits : (old new : Mark) (masked : Option ℕ) → StaysOrPlain old new → Admits old masked → Admits new masked
still_admits Unmarked new masked stays m = absurd m
still_admits Plain new masked stays m = subst (λ (mark : Mark). Admits mark masked) (sym stays) m
still_admits (After register) new masked stays m =
    elim stays [
      | inl same ↦ subst (λ (mark : Mark). Admits mark masked) (sym same) m
      | inr plain ↦ subst (λ (mark : Mark). Admits mark masked) (sym plain) tt
    ]

-- a span set leaves the list as long, also an empty one
span_long : {X : Type 0} (xs : List X) (start : ℕ) (ys : List X) → (0 < length ys → start + length ys ≤ length xs)
    → length (with_span xs start ys) ≡ length xs
span_long {X} xs start [] fits =
    let e : start + 0 ≡ start = omega arith in
    ap (λ (n : ℕ). length (take start xs ++ drop n xs)) e ∙ ap (λ (z : List X). length z) (take-append-drop start xs)
span_long xs start (y ∷ ys) fits = length-with_span xs start (y ∷ ys) (fits (omega arith))

-- what a seat keeps while marks and spans change
seat_moves : (old marks : List Mark) (before retired : List RetiredSpan) (from to bound : ℕ) (seat : Seat) → from ≤ to
    → IfSome seat.inside (IsKnown marks) → IfSome seat.inside (CameBefore seat.pass.since retired)
    → SeatKeeps old before from bound seat → SeatKeeps marks retired to bound seat
seat_moves old marks before retired from to bound seat le stands early s =
    record {
      stands = stands;
      early = early;
      since = omega
          (arith, s.since, le);
      word = s.word;
      out = s.out;
      found = s.found;
      bound_is = s.bound_is;
    }

-- the world's invariant stays when marks are added
pub keeps_marks : (w : World) (at : ℕ) (marks : List Mark) → Keeps w → IsAllowed w (Marks at marks) → Keeps (after w (Marks at marks))
keeps_marks w at marks keeps allowed =
    let new = (with_marks w.marked at marks).marks in
    let still : (now : State) → IsKnown w.marked.marks now → IsKnown (with_marks w.marked at marks).marks now = λ now known.
    elim known [
      | inl m ↦ inl (
        m.0,
        still_admits (mark_at w.marked.marks now.place) (mark_at (with_marks w.marked at marks).marks now.place) now.masked
            (allowed.1 (now.place - 65536)) m.1,
      )
      | inr zone ↦ inr zone
    ] in
    record {
      as_long =
          span_long w.marked.marks (at - 65536) marks
          (λ some. let first = allowed.0 0 some in let last = allowed.0 (length marks - 1) (omega (arith, some)) in omega
          (arith, some, first.0, last.1, keeps.as_long))
          ∙ keeps.as_long;
      closed = λ view v. (allowed.2 view v).0;
      shut = λ view v. (allowed.2 view v).1;
      whole = keeps.whole;
      apart = keeps.apart;
      bounds = keeps.bounds;
      seats = λ k lt.
          let s = keeps.seats k lt in
          seat_moves w.marked.marks (with_marks w.marked at marks).marks w.retired w.retired w.keeper.generation w.keeper.generation
          (slice_index w.keeper.bounds k) (seat_at w k) (omega arith)
          (IfSome_then (seat_at w k).inside
          {P = (IsKnown w.marked.marks)}
          {Q = (IsKnown (with_marks w.marked at marks).marks)}
          s.stands still) s.early s;
    }

-- the world's invariant stays when the generation grows
pub keeps_bumps : (w : World) → Keeps w → Keeps (after w Bumps)
keeps_bumps w keeps =
    record {
      as_long = keeps.as_long;
      closed = keeps.closed;
      shut = keeps.shut;
      whole = keeps.whole;
      apart = keeps.apart;
      bounds = keeps.bounds;
      seats = λ k lt.
          let s = keeps.seats k lt in
          seat_moves w.marked.marks w.marked.marks w.retired w.retired w.keeper.generation (w.keeper.generation + 1)
          (slice_index w.keeper.bounds k) (seat_at w k) (omega arith) s.stands s.early s;
    }

-- what follows from two things that hold of each
all_two : {X : Type 0} (P Q R : X → Type 0) (xs : List X) → ((x : X) → P x → Q x → R x) → All P xs → All Q xs → All R xs
all_two {X} P Q R xs f ps qs =
    All-weaker (Contains xs) R (λ x has. f x (All-contains P xs x ps has) (All-contains Q xs x qs has)) xs (All-contains_itself xs)

-- spans that are apart are so both ways
apart_sym : (one other : RetiredSpan) → AreApart one other → AreApart other one
apart_sym one other apart = elim apart [ inl below ↦ inr below | inr above ↦ inl above ]

-- a span is the same as itself
pub same_as_itself : (span : RetiredSpan) → is_same_span span span ≡ true
same_as_itself span = grind (arith, nat_tests)

-- a span apart from the others joins them
one_more_apart : (span : RetiredSpan) (retired : List RetiredSpan) → All (AreApart span) retired → OthersApart retired → OthersApart (span ∷ retired)
one_more_apart span retired new apart =
    All-cons (λ (one : RetiredSpan). All (λ (other : RetiredSpan). is_same_span one other ≡ false → AreApart one other) (span ∷ retired)) span retired
    (All-cons (λ (other : RetiredSpan). is_same_span span other ≡ false → AreApart span other) span retired
    (λ not_same. absurd (false≢true (sym not_same ∙ same_as_itself span)))
    (All-weaker (AreApart span) (λ (other : RetiredSpan). is_same_span span other ≡ false → AreApart span other)
    (λ other is not_same. is) retired new))
    (all_two (λ (one : RetiredSpan). All (λ (other : RetiredSpan). is_same_span one other ≡ false → AreApart one other) retired)
    (AreApart span) (λ (one : RetiredSpan). All (λ (other : RetiredSpan). is_same_span one other ≡ false → AreApart one other) (span ∷ retired))
    retired
    (λ one each is. All-cons (λ (other : RetiredSpan). is_same_span one other ≡ false → AreApart one other) span retired
    (λ not_same. apart_sym span one is) each) apart new)

-- retired spans that stay are apart from one another
fewer_apart : (keep : RetiredSpan → Bool) (retired : List RetiredSpan) → OthersApart retired → OthersApart (filter keep retired)
fewer_apart keep retired apart =
    All-filter keep (λ (one : RetiredSpan). All (λ (other : RetiredSpan). is_same_span one other ≡ false → AreApart one other) (filter keep retired))
    retired
    (All-weaker (λ (one : RetiredSpan). All (λ (other : RetiredSpan). is_same_span one other ≡ false → AreApart one other) retired)
    (λ (one : RetiredSpan). All (λ (other : RetiredSpan). is_same_span one other ≡ false → AreApart one other) (filter keep retired))
    (λ one each. All-filter keep (λ (other : RetiredSpan). is_same_span one other ≡ false → AreApart one other) retired each) retired apart)

-- the world's invariant stays when a span is retired
pub keeps_retires : (w : World) (base len : ℕ) → Keeps w → IsAllowed w (Retires base len) → Keeps (after w (Retires base len))
keeps_retires w base len keeps allowed =
    record {
      as_long = keeps.as_long;
      closed = keeps.closed;
      shut = λ view v. All-cons (IsShut view w.marked.marks) (new_span w base len) w.retired (allowed.2 view v) (keeps.shut view v);
      whole = All-cons (IsWhole w.marked.bytes) (new_span w base len) w.retired allowed.0 keeps.whole;
      apart = one_more_apart (new_span w base len) w.retired allowed.1 keeps.apart;
      bounds = keeps.bounds;
      seats = λ k lt.
          let s = keeps.seats k lt in
          seat_moves w.marked.marks w.marked.marks w.retired (new_span w base len ∷ w.retired) w.keeper.generation
          (w.keeper.generation + 1) (slice_index w.keeper.bounds k) (seat_at w k) (omega arith) s.stands
          (IfSome_then (seat_at w k).inside
          {P = (CameBefore (seat_at w k).pass.since w.retired)}
          {Q = (CameBefore (seat_at w k).pass.since (new_span w base len ∷ w.retired))}
          s.early (λ now came. All-cons (λ (span : RetiredSpan). IsWithin span now.place → (seat_at w k).pass.since < span.stamp)
          (new_span w base len) w.retired (λ within. omega (arith, s.since)) came))
          s;
    }

-- what holds of each thing that is there
for_some : {X : Type 0} (o : Option X) (P : X → Type 0) → ((x : X) → o ≡ Some x → P x) → IfSome o P
for_some None P f = tt
for_some (Some x) P f = f x refl

-- a seat by which a span's stamp has passed has no thread within the span
seat_is_out : (marks : List Mark) (retired : List RetiredSpan) (generation bound : ℕ) (span : RetiredSpan) (seat : Seat) → Contains retired span
    → SeatKeeps marks retired generation bound seat → (found : Bool) → seat.found_left ≡ found
    → (span.stamp ≤ bound) ⊎ (seat.found_left ≡ true) → (now : State) → seat.inside ≡ Some now → IsWithin span now.place → ⊥
seat_is_out marks retired generation bound span seat has s true is passed now inside within =
    none_is_some now (sym (s.out (s.found is)) ∙ inside)
seat_is_out marks retired generation bound span seat has s false is passed now inside within =
    let came = some_at seat.inside (CameBefore seat.pass.since retired) now inside s.early in
    let before = All-contains (λ (other : RetiredSpan). IsWithin other now.place → seat.pass.since < other.stamp) retired span came has within in
    elim passed [
      | inl reaches ↦ omega (arith, before, reaches, s.bound_is is)
      | inr left ↦ none_is_some now (sym (s.out (s.found left)) ∙ inside)
    ]

-- no seat has its thread within a span that may be freed
seats_are_out : (w : World) (span : RetiredSpan) → Keeps w → IsAllowed w (Frees span) → (k : ℕ) → k < length w.seats
    → IfSome (seat_at w k).inside (λ now. IsWithin span now.place → ⊥)
seats_are_out w span keeps allowed k lt =
    for_some (seat_at w k).inside (λ now. IsWithin span now.place → ⊥)
    (seat_is_out w.marked.marks w.retired w.keeper.generation (slice_index w.keeper.bounds k) span (seat_at w k) allowed.0
    (keeps.seats k lt) (seat_at w k).found_left refl (allowed.1 k lt))

-- what a thread out of the span stands on is marked afterwards
known_after : (w : World) (span : RetiredSpan) → MayFree w.marked span → (inside : Option State) → IfSome inside (IsKnown w.marked.marks)
    → IfSome inside (λ now. IsWithin span now.place → ⊥) → IfSome inside (IsKnown (freed_marks w.marked span))
known_after w span f None known out = tt
known_after w span f (Some now) known out = elim known [ inl m ↦ inl (freed_stays w.marked span f now m out) | inr zone ↦ inr zone ]

-- a view with the world's marks
abbrev pub seen_text : World → List ℕ → MarkedText
seen_text w view = record { bytes = view; marks = w.marked.marks }

-- a retired span may be freed in each view
may_free : (w : World) (view : List ℕ) (span : RetiredSpan) → Keeps w → IsViewOf w view → Contains w.retired span
    → MayFree (seen_text w view) span
may_free w view span keeps v has =
    let whole = All-contains (IsWhole w.marked.bytes) w.retired span keeps.whole has in
    record {
      as_long = keeps.as_long ∙ sym v.as_long;
      closed = keeps.closed view v;
      whole = record { start = whole.start; bundles = whole.bundles; low = whole.low; high = omega (arith, whole.high, v.as_long) };
      shut = All-contains (IsShut view w.marked.marks) w.retired span (keeps.shut view v) has;
    }

-- a retired span may be freed in the text as it stands
pub may_free_now : (w : World) (span : RetiredSpan) → Keeps w → Contains w.retired span → MayFree w.marked span
may_free_now w span keeps has = may_free w w.marked.bytes span keeps (as_it_stands w.marked.bytes w.earlier) has

-- the world's invariant stays when a span is freed
pub keeps_frees : (w : World) (span : RetiredSpan) → Keeps w → IsAllowed w (Frees span) → Keeps (after w (Frees span))
keeps_frees w span keeps allowed =
    let f = may_free_now w span keeps allowed.0 in
    let others : RetiredSpan → Bool = λ other. not (is_same_span span other) in
    record {
      as_long = freed_long w.marked span f ∙ keeps.as_long;
      closed = λ view v. freed_closed (seen_text w view) span (may_free w view span keeps v allowed.0);
      shut = λ view v. All-filter (λ other. not (is_same_span span other)) (IsShut view (freed_marks w.marked span)) w.retired
          (All-weaker (IsShut view w.marked.marks) (IsShut view (freed_marks w.marked span))
          (λ other shut. freed_shut (seen_text w view) span other (may_free w view span keeps v allowed.0) shut) w.retired
          (keeps.shut view v));
      whole = All-filter (λ other. not (is_same_span span other)) (IsWhole w.marked.bytes) w.retired keeps.whole;
      apart = fewer_apart (λ other. not (is_same_span span other)) w.retired keeps.apart;
      bounds = keeps.bounds;
      seats = λ k lt.
          let s = keeps.seats k lt in
          let kept : List RetiredSpan = filter (λ other. not (is_same_span span other)) w.retired in
          seat_moves w.marked.marks (freed_marks w.marked span) w.retired
          (filter (λ other. not (is_same_span span other)) w.retired) w.keeper.generation w.keeper.generation
          (slice_index w.keeper.bounds k) (seat_at w k) (omega arith)
          (known_after w span f (seat_at w k).inside s.stands (seats_are_out w span keeps allowed k lt))
          (IfSome_then (seat_at w k).inside
          {P = (CameBefore (seat_at w k).pass.since w.retired)}
          {Q = (CameBefore (seat_at w k).pass.since (filter (λ other. not (is_same_span span other)) w.retired))}
          s.early (λ now came. All-filter (λ other. not (is_same_span span other))
          (λ (other : RetiredSpan). IsWithin other now.place → (seat_at w k).pass.since < other.stamp) w.retired came))
          s;
    }

-- a seat whose word was looked at
abbrev looked : Seat → Seat
looked seat = record seat { found_left = seat.has_left }

-- the world's invariant stays when the keeper looks at a seat's word
pub keeps_looks : (w : World) (k : ℕ) → Keeps w → Keeps (after w (Looks k))
keeps_looks w k keeps =
    record {
      as_long = keeps.as_long;
      closed = keeps.closed;
      shut = keeps.shut;
      whole = keeps.whole;
      apart = keeps.apart;
      bounds = length-set w.keeper.bounds k (seat_at w k).pass.word
          ∙ (keeps.bounds ∙ sym (length-set w.seats k (looked (seat_at w k))));
      seats = λ j lt.
          let inside : j < length w.seats =
          omega (arith, lt, length-set w.seats k (looked (seat_at w k))) in
          let s = keeps.seats j inside in
          elim (eqb_tells j k) [
            | inl same ↦
                let seat_is : k < length w.seats = omega (arith, inside, same.1) in
                subst (λ (i : ℕ). SeatKeeps w.marked.marks w.retired w.keeper.generation
                (get_or (set w.keeper.bounds k (seat_at w k).pass.word) i 0)
                (get_or (set w.seats k (looked (seat_at w k))) i first_seat)) (sym same.1)
                (subst (λ (b : ℕ). SeatKeeps w.marked.marks w.retired w.keeper.generation b
                (get_or (set w.seats k (looked (seat_at w k))) k first_seat)) (sym
                (get_or-set_same w.keeper.bounds k (seat_at w k).pass.word 0 (omega (arith, seat_is, keeps.bounds))))
                (subst (SeatKeeps w.marked.marks w.retired w.keeper.generation (seat_at w k).pass.word)
                (sym (get_or-set_same w.seats k (looked (seat_at w k)) first_seat seat_is))
                (looked_keeps w k (keeps.seats k seat_is))))
            | inr other ↦
                subst (λ (b : ℕ). SeatKeeps w.marked.marks w.retired w.keeper.generation b
                (get_or (set w.seats k (looked (seat_at w k))) j first_seat)) (sym
                (get_or-set_other w.keeper.bounds k j (seat_at w k).pass.word 0 other.1))
                (subst (SeatKeeps w.marked.marks w.retired w.keeper.generation (slice_index w.keeper.bounds j))
                (sym (get_or-set_other w.seats k j (looked (seat_at w k)) first_seat other.1)) s)
          ];
    }
  where
    -- the seat that was looked at
    looked_keeps : (w : World) (k : ℕ)
        → SeatKeeps w.marked.marks w.retired w.keeper.generation (slice_index w.keeper.bounds k) (seat_at w k)
        → SeatKeeps w.marked.marks w.retired w.keeper.generation (seat_at w k).pass.word (looked (seat_at w k))
    looked_keeps w k s =
        record {
          stands = s.stands;
          early = s.early;
          since = s.since;
          word = s.word;
          out = s.out;
          found = λ is. is;
          bound_is = s.word;
        }

-- no span that stays retired has a place of the one that is freed
others_apart : (w : World) (span : RetiredSpan) → Keeps w → Contains w.retired span → All (AreApart span) (after w (Frees span)).retired
others_apart w span keeps has =
    let apart_if_other = All-contains (λ (one : RetiredSpan). All (λ (other : RetiredSpan). is_same_span one other ≡ false → AreApart one other) w.retired)
    w.retired span keeps.apart has in
    all_two (λ (other : RetiredSpan). not (is_same_span span other) ≡ true) (λ (other : RetiredSpan). is_same_span span other ≡ false → AreApart span other)
    (AreApart span) (filter (λ other. not (is_same_span span other)) w.retired)
    (λ other kept apart. apart (not_is (is_same_span span other) kept))
    (filter_passes (λ other. not (is_same_span span other)) w.retired)
    (All-filter (λ other. not (is_same_span span other)) (λ (other : RetiredSpan). is_same_span span other ≡ false → AreApart span other)
    w.retired apart_if_other)

-- a span that is freed may be used again
pub freed_is_usable : (w : World) (span : RetiredSpan) → Keeps w → IsAllowed w (Frees span) → IsUsable (after w (Frees span)) span
freed_is_usable w span keeps allowed = (
  All-contains (IsWhole w.marked.bytes) w.retired span keeps.whole allowed.0,
  others_apart w span keeps allowed.0,
)

-- nobody stands within a span that may be freed
pub none_is_within : (w : World) (span : RetiredSpan) → Keeps w → IsAllowed w (Frees span) → NoneIsWithin w span
none_is_within w span keeps allowed =
    All_from w.seats (λ (seat : Seat). IfSome seat.inside (λ now. IsWithin span now.place → ⊥)) (seats_are_out w span keeps allowed)
  where
    -- what holds of the seat at each index holds of all seats
    All_from : (seats : List Seat) (P : Seat → Type 0) → ((k : ℕ) → k < length seats → P (get_or seats k first_seat)) → All P seats
    All_from seats P f = All-from_get_or P seats first_seat f

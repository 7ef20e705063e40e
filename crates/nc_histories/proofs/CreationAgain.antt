-- A creation after attempts at it: what each attempt leaves, and the whole creation after them.
use Rattle.std.proofs.Common.{◌≡◌, ℕ, ◌+◌, ◌-◌, ◌<◌, ◌≤◌, not, Bool, false, All, List, [], ◌∷◌, ◌++◌, length, get_or, inl, inr, arith}
use Rattle.std.proofs.Common.{refl, ◌∙◌, sym, ap, subst, append-nil, append_assoc}
use Rattle.std.specs.Prelude.{Contains}
use Rattle.std.specs.List.{insert}
use Rattle.std.proofs.lemmas.Bool.{false≢true}
use Rattle.nc_decode.specs.declared.instruction.Mark.{Mark}
use Rattle.nc_decode.specs.declared.instruction.Mark.TheVariants.{Unmarked, Plain, After}
use Rattle.nc_text.specs.Places.{limit_of, byte_at}
use Rattle.nc_text.specs.Marks.{IsClosed}
use Rattle.nc_text.specs.MarkedText.{with_span, StaysOrPlain, KeepsMarks}
use Rattle.nc_text.specs.Puts.{HasPut}
use Rattle.nc_text.proofs.Offered.{is_with_span, length-with_span, get_or-with_span_in}
use Rattle.nc_vet.specs.Chunk.{MarkedChunk, IsValid}
use Rattle.nc_list.specs.declared.chunk.Chunk.{Chunk}
use Rattle.nc_region.specs.schedules.Spans.{RetiredSpan, IsShut}
use Rattle.nc_region.specs.schedules.World.{World}
use Rattle.nc_region.specs.schedules.Events.{Event, Marks, Serializes}
use Rattle.nc_region.proofs.Offered.{Keeps, as_it_stands, only_as_it_stands}
use Rattle.nc_acts.specs.Acts.{is_inside, is_start, puts_where}
use Rattle.nc_acts.specs.Chunks.{with_chunk}
use Rattle.nc_region.specs.Region.{IsRegion, FitsAt, live_chunk}
use Rattle.nc_acts.proofs.Offered.{IsFinalBut, final_all, final_but_starts, start_or_not}
use Rattle.nc_text.proofs.Offered.{place_of, Before, Within, Behind, span_within}
use Rattle.nc_histories.specs.Calls.{Details, no_details, create_events}
use Rattle.nc_histories.specs.Histories.{AreAttempts, NoneYet, OneMore}
use Rattle.nc_histories.specs.Views.{ViewsKeep}
use Rattle.nc_histories.proofs.Creation.{Filling, may_lay_inside, start_filling, IsNearly, nearly_good, nearly_first, HasCode, may_lay_starts}
use Rattle.nc_histories.proofs.Creation.{may_lay_again, chunk_fits, created_region, Creates, marking_leads}
use Rattle.nc_histories.proofs.Entries.{events_of, create_is}
use Rattle.nc_histories.proofs.Fronts.{split_joined, AreFirstPuts, all_puts, first_puts, no_more, same_byte, may_lay_some}
use Rattle.nc_histories.proofs.Good.{text_of}
use Rattle.nc_histories.proofs.Parting.{Kept, region_good, region_stopped}
use Rattle.nc_histories.proofs.Putting.{with_text, serialized, Views, Leads, Reaches, leads_one, leads_none, leads_more, serialization_leads}
use Rattle.nc_histories.proofs.Putting.{serialized_views, lay_all}
use Rattle.nc_histories.proofs.RetiredSpans.{AreSpansOf, retired_insert}
use Rattle.nc_histories.proofs.StaysWhole.{whole_serialized}

-- ---- texts that differ at chosen places of a span

-- a text is as another one, except at chosen places of a span
record DiffersAt (chosen : ℕ → Bool) (base len : ℕ) (old now : List ℕ) : Type 0 where
  as_long : length now ≡ length old
  passed : (at : ℕ) → base ≤ at → chosen at ≡ false → byte_at now at ≡ byte_at old at
  below : (at : ℕ) → 65536 ≤ at → at < base → byte_at now at ≡ byte_at old at
  above : (at : ℕ) → base + len ≤ at → byte_at now at ≡ byte_at old at

-- a text doesn't differ from itself
differs_not : (chosen : ℕ → Bool) (base len : ℕ) (text : List ℕ) → DiffersAt chosen base len text text
differs_not chosen base len text =
    record { as_long = refl; passed = λ at from no. refl; below = λ at low lt. refl; above = λ at past. refl }

-- more puts at the chosen places
differs_put : (chosen : ℕ → Bool) (base len : ℕ) (bytes old now new : List ℕ) → length bytes ≤ len
    → HasPut chosen base bytes (length bytes) now new → DiffersAt chosen base len old now → DiffersAt chosen base len old new
differs_put chosen base len bytes old now new le has d =
    record {
      as_long = has.as_long ∙ d.as_long;
      passed = λ at from no. has.passed at from no ∙ d.passed at from no;
      below = λ at low lt. has.below at low lt ∙ d.below at low lt;
      above = λ at past. has.above at (omega (arith, past, le)) ∙ d.above at past;
    }

-- puts at all chosen places of the span leave what they leave over the other text
put_over : (chosen : ℕ → Bool) (base : ℕ) (bytes old now new : List ℕ) → HasPut chosen base bytes (length bytes) now new
    → DiffersAt chosen base (length bytes) old now → HasPut chosen base bytes (length bytes) old new
put_over chosen base bytes old now new has d =
    record {
      as_long = has.as_long ∙ d.as_long;
      put = has.put;
      passed = λ at from no. has.passed at from no ∙ d.passed at from no;
      below = λ at low lt. has.below at low lt ∙ d.below at low lt;
      above = λ at past. has.above at past ∙ d.above at past;
    }

-- a final text that lacks bundle starts differs there
starts_differ : (final mid : List ℕ) (base len : ℕ) → 65536 ≤ base → IsFinalBut final mid base (base + len)
    → DiffersAt is_start base len final mid
starts_differ final mid base len low f =
    record {
      as_long = f.as_long;
      passed = λ at from no.
          elim (start_or_not at) [
            | inl start ↦ absurd (false≢true (sym no ∙ start.0))
            | inr inside ↦ f.inside at (omega (arith, low, from)) inside.1
          ];
      below = f.before;
      above = f.behind;
    }

-- a final text that differs at bundle starts does so after its other bytes are put again
refilled : (final now new : List ℕ) (base len : ℕ) (some : List ℕ) → length some ≤ len
    → ((at : ℕ) → base ≤ at → at < base + length some → get_or some (at - base) 0 ≡ byte_at final at)
    → HasPut is_inside base some (length some) now new → DiffersAt is_start base len final now → DiffersAt is_start base len final new
refilled final now new base len some le code has d =
    record {
      as_long = has.as_long ∙ d.as_long;
      passed = λ at from no.
          elim (place_of base (length some) at) [
            | Before l ↦ absurd (omega (arith, l, from))
            | Within a b ↦ has.put at a b (ap not no) ∙ code at a b
            | Behind p ↦ has.above at p ∙ d.passed at from no
          ];
      below = λ at low lt. has.below at low lt ∙ d.below at low lt;
      above = λ at past. has.above at (omega (arith, past, le)) ∙ d.above at past;
    }

-- a final text that differs at bundle starts is the final one once these are put
started : (final now new : List ℕ) (base : ℕ) (code : List ℕ) → HasCode final base code → HasPut is_start base code (length code) now new
    → DiffersAt is_start base (length code) final now → new ≡ final
started final now new base code code_is has d =
    final_all final new (base + length code) (record {
      as_long = has.as_long ∙ d.as_long;
      stops = λ at a b start. absurd (omega (arith, a, b));
      before = λ at low lt.
          elim (place_of base (length code) at) [
            | Before l ↦ has.below at low l ∙ d.below at low l
            | Within a b ↦
                elim (start_or_not at) [
                  | inl start ↦ has.put at a b start.0 ∙ code_is at a b
                  | inr inside ↦ has.passed at a inside.0 ∙ d.passed at a inside.0
                ]
            | Behind p ↦ absurd (omega (arith, p, lt))
          ];
      behind = λ at past. has.above at past ∙ d.above at past;
      inside = λ at low not_start.
          elim (place_of base (length code) at) [
            | Before l ↦ has.below at low l ∙ d.below at low l
            | Within a b ↦
                elim (start_or_not at) [
                  | inl start ↦ absurd (not_start start.1)
                  | inr inside ↦ has.passed at a inside.0 ∙ d.passed at a inside.0
                ]
            | Behind p ↦ has.above at p ∙ d.above at p
          ];
    })

-- ---- the first events of a creation

-- the details of a creation's events
abbrev of_marks : List Mark → Details
of_marks marks = record no_details { marks = marks }

-- the puts of a creation at its bundle starts, or at its other places
abbrev puts_of : (ℕ → Bool) → MarkedChunk → List Event
puts_of chosen v = events_of (of_marks v.marks) (puts_where chosen v.base v.code)

-- the first events of a creation: some puts of bytes that are no bundle starts; all of these and the serialization; or these, the
-- marking and some puts of bundle starts
data IsFront (v : MarkedChunk) (part : List Event) : Type 0 where
  OfInside : AreFirstPuts (of_marks v.marks) is_inside v.base v.code part → IsFront v part
  OfSerialized : part ≡ puts_of is_inside v ++ Serializes ∷ [] → IsFront v part
  OfStarts : (starts : List Event) → AreFirstPuts (of_marks v.marks) is_start v.base v.code starts
      → part ≡ puts_of is_inside v ++ (Serializes ∷ Marks v.base v.marks ∷ starts) → IsFront v part

-- a prefix of a creation's events is one of these
is_front : (v : MarkedChunk) (part rest : List Event) → part ++ rest ≡ create_events v → IsFront v part
is_front v part rest is =
    elim (split_joined part rest (puts_of is_inside v) (Serializes ∷ Marks v.base v.marks ∷ puts_of is_start v) (is ∙ create_is v)) [
      | inl f ↦ OfInside (first_puts (of_marks v.marks) is_inside v.base v.code part f.0 (sym f.1))
      | inr f ↦ behind f.0 f.1 f.2
    ]
  where
    behind : (r : List Event) → part ≡ puts_of is_inside v ++ r
        → r ++ rest ≡ Serializes ∷ Marks v.base v.marks ∷ puts_of is_start v → IsFront v part
    behind [] here same =
        OfInside (subst (AreFirstPuts (of_marks v.marks) is_inside v.base v.code) (sym (here ∙ append-nil (puts_of is_inside v)))
        (all_puts (of_marks v.marks) is_inside v.base v.code))
    behind (x ∷ []) here same =
        let first : x ≡ Serializes = cc in
        OfSerialized (here ∙ ap (λ (e : Event). puts_of is_inside v ++ e ∷ []) first)
    behind (x ∷ y ∷ r) here same =
        let first : x ≡ Serializes = cc in
        let second : y ≡ Marks v.base v.marks = cc in
        let others : r ++ rest ≡ puts_of is_start v = cc in
        OfStarts r (first_puts (of_marks v.marks) is_start v.base v.code r rest others)
        (here ∙ (ap (λ (e : Event). puts_of is_inside v ++ (e ∷ y ∷ r)) first
        ∙ ap (λ (e : Event). puts_of is_inside v ++ (Serializes ∷ e ∷ r)) second))

-- ---- what they leave

-- the bytes with the chunk
abbrev final_of : World → MarkedChunk → List ℕ
final_of w v = (with_chunk w.marked v.base v.code v.marks).bytes

-- the world with the chunk's marks
abbrev marked_in : World → MarkedChunk → World
marked_in w v = record w { marked = text_of w.marked.bytes (with_chunk w.marked v.base v.code v.marks).marks }

-- What attempts at a creation leave. The chunk isn't marked, and bytes that are no bundle starts are put; or it is marked, these are all
-- put, and bundle starts may be.
data Halfway (w : World) (v : MarkedChunk) : World → Type 0 where
  Filled : (now : List ℕ) (before : List (List ℕ)) → DiffersAt is_inside v.base (length v.code) w.marked.bytes now
      → Views (Filling w v.base (length v.code)) now before → Halfway w v (with_text w now before)
  Started : (now : List ℕ) (before : List (List ℕ)) → DiffersAt is_start v.base (length v.code) (final_of w v) now
      → Views (IsNearly (final_of w v)) now before → Halfway w v (with_text (marked_in w v) now before)

-- events that lead from one such world to another
record GetsHalfway (w : World) (v : MarkedChunk) (from : World) (events : List Event) : Type 0 where
  to : World
  leads : Leads from events to
  stage : Halfway w v to

-- events after events
goes_more : (w : World) (v : MarkedChunk) (from : World) (first second : List Event) (a : GetsHalfway w v from first)
    → GetsHalfway w v a.to second → GetsHalfway w v from (first ++ second)
goes_more w v from first second a b =
    record { to = b.to; leads = leads_more from a.to b.to first second a.leads b.leads; stage = b.stage }

-- a chunk that is created in a world
abbrev CreatesIn : World → List Chunk → ℕ → MarkedChunk → Type 0
CreatesIn w chunks k v = Creates w chunks k v.base v.code v.marks

-- the chunk's span ends in the region
span_fits : (w : World) (chunks : List Chunk) (k : ℕ) (v : MarkedChunk) → CreatesIn w chunks k v
    → v.base + length v.code ≤ 65536 + length w.marked.bytes
span_fits w chunks k v c = omega (arith, c.joins.chunk.placed.high)

-- the bytes with the chunk are as many
final_long : (w : World) (chunks : List Chunk) (k : ℕ) (v : MarkedChunk) → CreatesIn w chunks k v
    → length (final_of w v) ≡ length w.marked.bytes
final_long w chunks k v c =
    length-with_span w.marked.bytes (v.base - 65536) v.code (omega (arith, c.joins.chunk.placed.low, span_fits w chunks k v c))

-- the bytes with the chunk have its bytes
final_code : (w : World) (chunks : List Chunk) (k : ℕ) (v : MarkedChunk) → CreatesIn w chunks k v → HasCode (final_of w v) v.base v.code
final_code w chunks k v c =
    λ at low high. sym (span_within w.marked.bytes v.base v.code at 0 c.joins.chunk.placed.low (span_fits w chunks k v c) low high)

-- some of the bytes that are no bundle starts are put
inside_goes : (w : World) (chunks : List Chunk) (k : ℕ) (v : MarkedChunk) → CreatesIn w chunks k v → (from : World) → Halfway w v from
    → (part : List Event) → AreFirstPuts (of_marks v.marks) is_inside v.base v.code part → GetsHalfway w v from part
inside_goes w chunks k v c _ (Filled now before differs views) part f =
    let le = no_more v.code f.some f.more f.parts in
    let a = lay_all w (of_marks v.marks) is_inside v.base f.some now before (Filling w v.base (length v.code))
    (may_lay_some w is_inside v.base v.code f.some f.more (Filling w v.base (length v.code)) f.parts
    (may_lay_inside w v.base v.code c.joins.chunk.placed c.joins.unused))
    (omega (arith, le, span_fits w chunks k v c, differs.as_long)) views in
    record {
      to = with_text w a.bytes a.earlier;
      leads = subst (λ (z : List Event). Leads (with_text w now before) z (with_text w a.bytes a.earlier)) (sym f.own) a.leads;
      stage = Filled a.bytes a.earlier
          (differs_put is_inside v.base (length v.code) f.some w.marked.bytes now a.bytes le a.has differs) a.views;
    }
inside_goes w chunks k v c _ (Started now before differs views) part f =
    let le = no_more v.code f.some f.more f.parts in
    let a = lay_all (marked_in w v) (of_marks v.marks) is_inside v.base f.some now before (IsNearly (final_of w v))
    (may_lay_some (marked_in w v) is_inside v.base v.code f.some f.more (IsNearly (final_of w v)) f.parts
    (may_lay_again (marked_in w v) (final_of w v) v.base v.code c.joins.chunk.placed.low c.final (final_code w chunks k v c)))
    (omega (arith, le, span_fits w chunks k v c, differs.as_long, final_long w chunks k v c)) views in
    record {
      to = with_text (marked_in w v) a.bytes a.earlier;
      leads = subst (λ (z : List Event). Leads (with_text (marked_in w v) now before) z (with_text (marked_in w v) a.bytes a.earlier))
          (sym f.own) a.leads;
      stage = Started a.bytes a.earlier
          (refilled (final_of w v) now a.bytes v.base (length v.code) f.some le
          (λ at low high.
          sym (same_byte v.code f.some f.more f.parts (at - v.base) (omega (arith, low, high)))
          ∙ final_code w chunks k v c at low (omega (arith, high, le))) a.has differs) a.views;
    }

-- a serialization
serialization_goes : (w : World) (v : MarkedChunk) (from : World) → Halfway w v from → GetsHalfway w v from (Serializes ∷ [])
serialization_goes w v _ (Filled now before differs views) =
    record {
      to = serialized w now;
      leads = serialization_leads w now before;
      stage = Filled now [] differs
          (serialized_views (Filling w v.base (length v.code)) now (views now (as_it_stands now before)));
    }
serialization_goes w v _ (Started now before differs views) =
    record {
      to = serialized (marked_in w v) now;
      leads = serialization_leads (marked_in w v) now before;
      stage = Started now [] differs (serialized_views (IsNearly (final_of w v)) now (views now (as_it_stands now before)));
    }

-- all but bundle starts is put, and the chunk is marked
record IsOpened (w : World) (v : MarkedChunk) (from : World) : Type 0 where
  mid : List ℕ
  leads : Leads from (puts_of is_inside v ++ (Serializes ∷ Marks v.base v.marks ∷ [])) (serialized (marked_in w v) mid)
  differs : DiffersAt is_start v.base (length v.code) (final_of w v) mid
  nearly : IsNearly (final_of w v) mid

-- marks that are set a second time stay
marked_twice : (marks : List Mark) (start : ℕ) (new : List Mark) → start + length new ≤ length marks
    → with_span (with_span marks start new) start new ≡ with_span marks start new
marked_twice marks start new fits =
    let long = length-with_span marks start new fits in
    sym (is_with_span (with_span marks start new) (with_span marks start new) start new Unmarked (omega (arith, long, fits)) refl
    (λ k lt. refl) (λ k low high. get_or-with_span_in marks start new k Unmarked fits low high) (λ k past. refl))

-- a mark may stay
may_stay : (mark : Mark) → StaysOrPlain mark mark
may_stay Unmarked = tt
may_stay Plain = refl
may_stay (After register) = inl refl

-- the chunk may be marked a second time
remarking_leads : (w : World) (chunks : List Chunk) (k : ℕ) (v : MarkedChunk) (mid : List ℕ) → CreatesIn w chunks k v
    → length mid ≡ length w.marked.bytes → IsNearly (final_of w v) mid
    → Leads (serialized (marked_in w v) mid) (Marks v.base v.marks ∷ []) (serialized (marked_in w v) mid)
remarking_leads w chunks k v mid c long nearly =
    let placed = c.joins.chunk.placed in
    let marks = (with_chunk w.marked v.base v.code v.marks).marks in
    let good = nearly_good (final_of w v) mid (with_chunk w.marked v.base v.code v.marks).marks w.retired c.final nearly in
    let same : with_span (with_chunk w.marked v.base v.code v.marks).marks (v.base - 65536) v.marks
    ≡ (with_chunk w.marked v.base v.code v.marks).marks =
    marked_twice w.marked.marks (v.base - 65536) v.marks
    (omega (arith, placed.low, span_fits w chunks k v c, c.joins.chunk.as_long, c.joins.as_long)) in
    subst (λ (m : List Mark). Leads (serialized (marked_in w v) mid) (Marks v.base v.marks ∷ [])
    (record (serialized (marked_in w v) mid) { marked = text_of mid m })) same
    (leads_one (serialized (marked_in w v) mid) (Marks v.base v.marks) (
      λ j lt. (omega (arith, placed.low), omega (arith, placed.high, lt, c.joins.chunk.as_long, long)),
      subst (KeepsMarks (with_chunk w.marked v.base v.code v.marks).marks) (sym same)
          (λ j. may_stay (get_or (with_chunk w.marked v.base v.code v.marks).marks j Unmarked)),
      λ view is. subst (λ (m : List Mark). IsClosed view m × All (IsShut view m) w.retired) (sym same)
          (subst (λ (z : List ℕ). IsClosed z (with_chunk w.marked v.base v.code v.marks).marks
          × All (IsShut z (with_chunk w.marked v.base v.code v.marks).marks) w.retired) (sym (only_as_it_stands mid view is))
          (good.closed, good.shut)),
    )
    (λ whole. whole_serialized (with_span (with_chunk w.marked v.base v.code v.marks).marks (v.base - 65536) v.marks) mid))

-- all but the bundle starts can be put, and the chunk marked
opened : (w : World) (chunks : List Chunk) (k : ℕ) (v : MarkedChunk) → CreatesIn w chunks k v → (from : World) → Halfway w v from
    → IsOpened w v from
opened w chunks k v c _ (Filled now before differs views) =
    let placed = c.joins.chunk.placed in
    let a = lay_all w (of_marks v.marks) is_inside v.base v.code now before (Filling w v.base (length v.code))
    (may_lay_inside w v.base v.code placed c.joins.unused) (omega (arith, span_fits w chunks k v c, differs.as_long)) views in
    let first = final_but_starts w.marked a.bytes v.base v.code placed c.joins.unused
    (put_over is_inside v.base v.code w.marked.bytes now a.bytes a.has differs) in
    let nearly = nearly_first (final_of w v) a.bytes v.base (length v.code) first in
    record {
      mid = a.bytes;
      leads = leads_more (with_text w now before) (with_text w a.bytes a.earlier) (serialized (marked_in w v) a.bytes)
          (puts_of is_inside v) (Serializes ∷ Marks v.base v.marks ∷ []) a.leads
          (leads_more (with_text w a.bytes a.earlier) (serialized w a.bytes) (serialized (marked_in w v) a.bytes)
          (Serializes ∷ []) (Marks v.base v.marks ∷ []) (serialization_leads w a.bytes a.earlier)
          (marking_leads w chunks k v.base v.code v.marks a.bytes c (a.has.as_long ∙ differs.as_long) nearly));
      differs = starts_differ (final_of w v) a.bytes v.base (length v.code) placed.low first;
      nearly = nearly;
    }
opened w chunks k v c _ (Started now before differs views) =
    let a = lay_all (marked_in w v) (of_marks v.marks) is_inside v.base v.code now before (IsNearly (final_of w v))
    (may_lay_again (marked_in w v) (final_of w v) v.base v.code c.joins.chunk.placed.low c.final (final_code w chunks k v c))
    (omega (arith, span_fits w chunks k v c, differs.as_long, final_long w chunks k v c)) views in
    let nearly = a.views a.bytes (as_it_stands a.bytes a.earlier) in
    record {
      mid = a.bytes;
      leads = leads_more (with_text (marked_in w v) now before) (with_text (marked_in w v) a.bytes a.earlier)
          (serialized (marked_in w v) a.bytes) (puts_of is_inside v) (Serializes ∷ Marks v.base v.marks ∷ []) a.leads
          (leads_more (with_text (marked_in w v) a.bytes a.earlier) (serialized (marked_in w v) a.bytes)
          (serialized (marked_in w v) a.bytes) (Serializes ∷ []) (Marks v.base v.marks ∷ [])
          (serialization_leads (marked_in w v) a.bytes a.earlier)
          (remarking_leads w chunks k v a.bytes c (a.has.as_long ∙ (differs.as_long ∙ final_long w chunks k v c)) nearly));
      differs = refilled (final_of w v) now a.bytes v.base (length v.code) v.code (omega arith) (final_code w chunks k v c) a.has differs;
      nearly = nearly;
    }

-- some of the bundle starts are put
record HasStarted (w : World) (v : MarkedChunk) (from : World) (some : List ℕ) (starts : List Event) : Type 0 where
  bytes : List ℕ
  earlier : List (List ℕ)
  mid : List ℕ
  leads : Leads from (puts_of is_inside v ++ (Serializes ∷ Marks v.base v.marks ∷ starts)) (with_text (marked_in w v) bytes earlier)
  differs : DiffersAt is_start v.base (length v.code) (final_of w v) mid
  has : HasPut is_start v.base some (length some) mid bytes
  views : Views (IsNearly (final_of w v)) bytes earlier

-- some of the bundle starts can be put once the chunk is marked
starts_put : (w : World) (chunks : List Chunk) (k : ℕ) (v : MarkedChunk) → CreatesIn w chunks k v → (from : World) → Halfway w v from
    → (starts : List Event) (f : AreFirstPuts (of_marks v.marks) is_start v.base v.code starts) → HasStarted w v from f.some starts
starts_put w chunks k v c from stage starts f =
    let o = opened w chunks k v c from stage in
    let le = no_more v.code f.some f.more f.parts in
    let b = lay_all (marked_in w v) (of_marks v.marks) is_start v.base f.some o.mid [] (IsNearly (final_of w v))
    (may_lay_some (marked_in w v) is_start v.base v.code f.some f.more (IsNearly (final_of w v)) f.parts
    (may_lay_starts (marked_in w v) (final_of w v) v.base v.code c.joins.chunk.placed.low c.final (final_code w chunks k v c)))
    (omega (arith, le, span_fits w chunks k v c, o.differs.as_long, final_long w chunks k v c))
    (serialized_views (IsNearly (final_of w v)) o.mid o.nearly) in
    let last : Leads (serialized (marked_in w v) o.mid) starts (with_text (marked_in w v) b.bytes b.earlier) =
    subst (λ (z : List Event). Leads (serialized (marked_in w v) o.mid) z (with_text (marked_in w v) b.bytes b.earlier)) (sym f.own)
    b.leads in
    record {
      bytes = b.bytes;
      earlier = b.earlier;
      mid = o.mid;
      leads = subst (λ (z : List Event). Leads from z (with_text (marked_in w v) b.bytes b.earlier))
          (append_assoc (puts_of is_inside v) (Serializes ∷ Marks v.base v.marks ∷ []) starts)
          (leads_more from (serialized (marked_in w v) o.mid) (with_text (marked_in w v) b.bytes b.earlier)
          (puts_of is_inside v ++ (Serializes ∷ Marks v.base v.marks ∷ [])) starts o.leads last);
      differs = o.differs;
      has = b.has;
      views = b.views;
    }

-- one attempt at a creation
front_goes : (w : World) (chunks : List Chunk) (k : ℕ) (v : MarkedChunk) → CreatesIn w chunks k v → (from : World) → Halfway w v from
    → (part : List Event) → IsFront v part → GetsHalfway w v from part
front_goes w chunks k v c from stage part (OfInside f) = inside_goes w chunks k v c from stage part f
front_goes w chunks k v c from stage part (OfSerialized is) =
    let a = inside_goes w chunks k v c from stage (puts_of is_inside v) (all_puts (of_marks v.marks) is_inside v.base v.code) in
    subst (GetsHalfway w v from) (sym is)
    (goes_more w v from (puts_of is_inside v) (Serializes ∷ []) a (serialization_goes w v a.to a.stage))
front_goes w chunks k v c from stage part (OfStarts starts f is) =
    let s = starts_put w chunks k v c from stage starts f in
    subst (GetsHalfway w v from) (sym is)
    (record {
      to = with_text (marked_in w v) s.bytes s.earlier;
      leads = s.leads;
      stage = Started s.bytes s.earlier
          (differs_put is_start v.base (length v.code) f.some (final_of w v) s.mid s.bytes (no_more v.code f.some f.more f.parts) s.has
          s.differs) s.views;
    })

-- any number of attempts at a creation
attempts_go : (w : World) (chunks : List Chunk) (k : ℕ) (v : MarkedChunk) → CreatesIn w chunks k v → (made : List Event)
    → AreAttempts (create_events v) made → GetsHalfway w v w made
attempts_go w chunks k v c [] NoneYet =
    record {
      to = w;
      leads = leads_none w;
      stage = Filled w.marked.bytes w.earlier (differs_not is_inside v.base (length v.code) w.marked.bytes)
          (start_filling w chunks v.base (length v.code) k c.keeps c.views c.joins.unused c.joins.chunk.placed.low c.fit);
    }
attempts_go w chunks k v c _ (OneMore {earlier} first part rest same) =
    let a = attempts_go w chunks k v c earlier first in
    goes_more w v w earlier part a (front_goes w chunks k v c a.to a.stage part (is_front v part rest same))

-- the chunk's acts, after attempts, lead to the text with the chunk, and every view is nearly that text
creation_leads : (w : World) (chunks : List Chunk) (k : ℕ) (v : MarkedChunk) (made : List Event) → CreatesIn w chunks k v
    → AreAttempts (create_events v) made
    → Reaches w (made ++ create_events v) (record w { marked = with_chunk w.marked v.base v.code v.marks }) (IsNearly (final_of w v))
creation_leads w chunks k v made c attempts =
    let a = attempts_go w chunks k v c made attempts in
    let b = starts_put w chunks k v c a.to a.stage (puts_of is_start v) (all_puts (of_marks v.marks) is_start v.base v.code) in
    let same : b.bytes ≡ final_of w v = started (final_of w v) b.mid b.bytes v.base v.code (final_code w chunks k v c) b.has b.differs in
    let last : Leads a.to (create_events v) (record w { marked = with_chunk w.marked v.base v.code v.marks; earlier = b.earlier }) =
    subst (λ (z : List Event). Leads a.to z (record w { marked = with_chunk w.marked v.base v.code v.marks; earlier = b.earlier }))
    (sym (create_is v))
    (subst (λ (z : List ℕ). Leads a.to (puts_of is_inside v ++ (Serializes ∷ Marks v.base v.marks ∷ puts_of is_start v))
    (with_text (marked_in w v) z b.earlier)) same b.leads) in
    record {
      earlier = b.earlier;
      leads = leads_more w a.to (record w { marked = with_chunk w.marked v.base v.code v.marks; earlier = b.earlier }) made
          (create_events v) a.leads last;
      views = subst (λ (z : List ℕ). Views (IsNearly (final_of w v)) z b.earlier) same b.views;
    }

-- a valid chunk is created, after attempts, in a world that has a region's text and spans
pub create_leads : (w : World) (chunks : List Chunk) (v : MarkedChunk) (k : ℕ) (made : List Event) → Keeps w → ViewsKeep w chunks
    → IsRegion w.marked chunks → AreSpansOf w.retired chunks → IsValid v → v.limit ≡ limit_of w.marked.bytes
    → FitsAt v.base (length v.code) chunks k → AreAttempts (create_events v) made
    → Reaches w (made ++ create_events v) (record w { marked = with_chunk w.marked v.base v.code v.marks })
    (Kept (with_chunk w.marked v.base v.code v.marks).marks (insert chunks k (live_chunk v)))
create_leads w chunks v k made keeps views region are valid limit fit attempts =
    let j = chunk_fits w.marked chunks v k region valid limit fit in
    let later = created_region w.marked chunks v k region valid limit fit in
    let final = region_good (with_chunk w.marked v.base v.code v.marks) (insert chunks k (live_chunk v)) w.retired later
    (λ span has. subst (λ (z : List RetiredSpan). Contains z span) (sym (retired_insert chunks k (live_chunk v) tt)) (are span has)) in
    let stopped = region_stopped (with_chunk w.marked v.base v.code v.marks) (insert chunks k (live_chunk v)) later in
    let r = creation_leads w chunks k v made
    (record { keeps = keeps; views = views; fit = fit; joins = j; final = final }) attempts in
    record {
      earlier = r.earlier;
      leads = r.leads;
      views = λ view is.
          let n = r.views view is in
          record {
            parted = (nearly_good (with_chunk w.marked v.base v.code v.marks).bytes view
                (with_chunk w.marked v.base v.code v.marks).marks w.retired final n).parted;
            stopped = λ now m free.
                elim (n.each now.place m.0) [ inl same ↦ same ∙ stopped now m free | inr stop ↦ stop.0 ];
          };
    }

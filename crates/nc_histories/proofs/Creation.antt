-- The acts of a creation are allowed events.
use Rattle.std.proofs.Common.{◌≡◌, ◌≢◌, ℕ, ◌+◌, ◌-◌, ◌%◌, ◌<◌, ◌≤◌, ◌⊎◌, All, List, [], ◌∷◌, length, get_or, set, take, drop}
use Rattle.std.proofs.Common.{true, None, Some, inl, inr, arith, refl, ◌∙◌, sym, ap, subst}
use Rattle.std.specs.List.{insert}
use Rattle.std.proofs.lemmas.Bool.{false≢true}
use Rattle.std.proofs.lemmas.Bool.Decides.{eqb_tells}
use Rattle.std.proofs.lemmas.List.{take-append-drop, length-set}
use Rattle.nc_decode.specs.declared.instruction.Instr.{Instr}
use Rattle.nc_decode.specs.declared.instruction.Mark.{Mark}
use Rattle.nc_decode.specs.Bundles.{IsLawfulLimit, IsBundleStart, IsInOneBundle}
use Rattle.nc_text.specs.Places.{limit_of, InRegion, byte_at, instruction_at}
use Rattle.nc_text.specs.Machine.{State, state}
use Rattle.nc_text.specs.Marks.{Admits, IsMarked, IsClosed}
use Rattle.nc_text.specs.MarkedText.{MarkedText, IsText, with_span}
use Rattle.nc_text.proofs.Offered.{executes, length-with_span}
use Rattle.nc_vet.specs.Chunk.{MarkedChunk, IsValid}
use Rattle.nc_list.specs.declared.chunk.Chunk.{Chunk}
use Rattle.nc_region.specs.schedules.Spans.{RetiredSpan, IsShut}
use Rattle.nc_region.specs.schedules.World.{World}
use Rattle.nc_region.specs.schedules.Events.{Marks}
use Rattle.nc_region.proofs.Offered.{Keeps, only_as_it_stands}
use Rattle.nc_acts.specs.Acts.{is_inside, is_start}
use Rattle.nc_acts.specs.Chunks.{HasGoodSpan, IsClosedChunk, IsUnused, with_chunk}
use Rattle.nc_text.proofs.Offered.{byte_at_other}
use Rattle.nc_region.specs.Region.{IsRegion, FitsAt, live_chunk}
use Rattle.nc_acts.proofs.Offered.{IsFinalBut}
use Rattle.nc_base.proofs.Offered.{each_map, each_append, some_same}
use Rattle.nc_region.proofs.Offered.{unused_if_apart, region_with_chunk}
use Rattle.nc_acts.proofs.Offered.{Joins, chunk_joins, chunk_keeps}
use Rattle.nc_region.proofs.Offered.{valid_chunk_is_closed}
use Rattle.nc_text.proofs.Offered.{Before, Within, Behind}
use Rattle.nc_text.proofs.Offered.{place_of}
use Rattle.nc_acts.proofs.Offered.{unused_is_start, unused_at_start, is_inside_false, start_or_not, before_span}
use Rattle.nc_histories.specs.Views.{ViewsKeep, IsFree}
use Rattle.nc_histories.proofs.Good.{text_of, Good, KeepsInstruction, good_by_places, stop_ends}
use Rattle.nc_histories.proofs.OnePut.{good_put_unread, byte_there}
use Rattle.nc_histories.proofs.PutsWhole.{put_in_both, whole_put_unread, whole_put_marked, whole_put_same}
use Rattle.nc_histories.proofs.StaysWhole.{PutsWhole, whole_serialized}
use Rattle.nc_histories.proofs.Putting.{serialized, Views, Leads, leads_one, MayLay}

-- every view is good where a call begins
pub start_good : (w : World) (chunks : List Chunk) → Keeps w → ViewsKeep w chunks
    → Views (λ view. Good view w.marked.marks w.retired) w.marked.bytes w.earlier
start_good w chunks keeps views = λ view v.
    record { closed = keeps.closed view v; shut = keeps.shut view v; parted = views.parted view v }

-- an instruction at a marked place of a good text lies in one bundle
pub in_one_bundle : (text : List ℕ) (marks : List Mark) (now : State) (i : Instr) → IsClosed text marks → IsMarked marks now
    → instruction_at text now.place ≡ Some i → IsInOneBundle now.place i.len
in_one_bundle text marks now i closed m is =
    let e = executes text now m.0 (closed.safe now m) in
    let same : e.i ≡ i = some_same (instruction_at text now.place) e.i i e.is is in
    omega (arith, e.permitted.0, ap (λ (j : Instr). j.len) same)

-- ---- the bytes that are no bundle starts

-- the text is good, and stops stand at the bundle starts of the span
pub record Filling (w : World) (base len : ℕ) (view : List ℕ) : Type 0 where
  pub good : Good view w.marked.marks w.retired
  pub stops : (at : ℕ) → base ≤ at → at < base + len → IsBundleStart at → byte_at view at ≡ 244

-- while the span is filled, no instruction has a place of it that is no bundle start
filling_clear : (w : World) (base len : ℕ) (view : List ℕ) (at : ℕ) → HasGoodSpan base (limit_of w.marked.bytes) len
    → IsUnused w.marked base len → Filling w base len view → base ≤ at → at < base + len → at % 32 ≢ 0
    → (now : State) (i : Instr) (k : ℕ) → IsMarked w.marked.marks now → instruction_at view now.place ≡ Some i → k < i.len
    → now.place + k ≢ at
filling_clear w base len view at placed unused f low high not now i k m is lt same =
    elim (place_of base len now.place) [
      | Before l ↦ (let under = before_span now.place i.len k base (in_one_bundle view w.marked.marks now i f.good.closed m is) lt
          placed.start l in omega (arith, under, same, low))
      | Within a b ↦
          let start = unused_is_start now.place now.masked
          (subst (λ (mark : Mark). Admits mark now.masked) (unused.unused now.place a b) m.1) in
          let e = executes view now m.0 (f.good.closed.safe now m) in
          elim (eqb_tells k 0) [
            | inl none ↦ not (ap (λ (n : ℕ). n % 32) (sym same ∙ zero_more now.place k none.1) ∙ start)
            | inr some ↦ stop_ends view now.place k i e.inside (f.stops now.place a b start) is (omega (arith, some.1)) lt
          ]
      | Behind p ↦ omega (arith, p, same, high)
    ]
  where
    zero_more : (n k : ℕ) → k ≡ 0 → n + k ≡ n
    zero_more n k e = omega (arith, e)

-- all but the bundle starts may be put
pub may_lay_inside : (w : World) (base : ℕ) (code : List ℕ) → HasGoodSpan base (limit_of w.marked.bytes) (length code)
    → IsUnused w.marked base (length code) → MayLay w is_inside base code (Filling w base (length code))
may_lay_inside w base code placed unused =
    record {
      low = placed.low;
      good = λ view f. f.good;
      put = λ view count lt chosen inside f.
          let not : (base + count) % 32 ≢ 0 = λ start. false≢true (sym (is_inside_false (base + count) start) ∙ chosen) in
          record {
            good = good_put_unread view w.marked.marks w.retired (base + count) (get_or code count 0) f.good inside.0
                (filling_clear w base (length code) view (base + count) placed unused f (omega arith) (omega (arith, lt)) not);
            stops = λ at low high start.
                byte_at_other view (base + count) at (get_or code count 0) inside.0 (omega (arith, low, placed.low))
                (λ same. not (ap (λ (n : ℕ). n % 32) (sym same) ∙ start))
                ∙ f.stops at low high start;
          };
      whole = λ view text count lt chosen inside within f t.
          let not : (base + count) % 32 ≢ 0 = λ start. false≢true (sym (is_inside_false (base + count) start) ∙ chosen) in
          whole_put_unread w.marked.marks w.retired view text (base + count) (get_or code count 0) f.good inside.0
          (filling_clear w base (length code) view (base + count) placed unused f (omega arith) (omega (arith, lt)) not);
    }

-- where a chunk fits, no live chunk is
fits_free : (chunks : List Chunk) (base len k at : ℕ) → FitsAt base len chunks k → base ≤ at → at < base + len → IsFree chunks at
fits_free chunks base len k at fit low high =
    subst (λ (z : List Chunk). IsFree z at) (take-append-drop k chunks)
    (each_append _ (take k chunks) (drop k chunks)
    (each_map (λ (c : Chunk). c.base + c.length ≤ base) _ (λ c h live inside. omega (arith, h, inside.1, low)) (take k chunks) fit.1)
    (each_map (λ (c : Chunk). base + len ≤ c.base) _ (λ c h live inside. omega (arith, h, inside.0, high)) (drop k chunks) fit.2))

-- where a creation begins, each view is as while its span is filled (`Filling`)
pub start_filling : (w : World) (chunks : List Chunk) (base len k : ℕ) → Keeps w → ViewsKeep w chunks → IsUnused w.marked base len
    → 65536 ≤ base → FitsAt base len chunks k → Views (Filling w base len) w.marked.bytes w.earlier
start_filling w chunks base len k keeps views unused above fit = λ view v.
    record {
      good = start_good w chunks keeps views view v;
      stops = λ at low high start.
          views.stopped view v (state at None) (
            omega (arith, above, low),
            subst (λ (mark : Mark). Admits mark None) (sym (unused.unused at low high ∙ unused_at_start at start)) tt,
          )
          (fits_free chunks base len k at fit low high);
    }

-- ---- the bundle starts

-- the text is the final one, but for stops at bundle starts
pub record IsNearly (final view : List ℕ) : Type 0 where
  pub as_long : length view ≡ length final
  pub each : (at : ℕ) → 65536 ≤ at → (byte_at view at ≡ byte_at final at) ⊎ ((byte_at view at ≡ 244) × IsBundleStart at)

-- a text that is a good final one, but for stops at bundle starts, is good
pub nearly_good : (final view : List ℕ) (marks : List Mark) (spans : List RetiredSpan) → Good final marks spans → IsNearly final view
    → Good view marks spans
nearly_good final view marks spans good n =
    good_by_places final view marks spans good n.as_long (λ now m.
    elim (n.each now.place m.0) [
      | inr stop ↦ inl stop.0
      | inl same ↦ inr (record { old = final; good = good; as_long = n.as_long; kept = kept now m same })
    ])
  where
    kept : (now : State) → IsMarked marks now → byte_at view now.place ≡ byte_at final now.place
        → KeepsInstruction final view now.place
    kept now m same = λ i is fits k lt.
        elim (n.each (now.place + k) (omega (arith, m.0))) [
          | inl there ↦ there
          | inr stop ↦
              let e : now.place + k ≡ now.place = omega (arith, stop.1, fits, lt) in
              subst (λ (p : ℕ). byte_at view p ≡ byte_at final p) (sym e) same
        ]

-- the text without the bundle starts is nearly the final one
pub nearly_first : (final mid : List ℕ) (base len : ℕ) → IsFinalBut final mid base (base + len) → IsNearly final mid
nearly_first final mid base len f =
    record {
      as_long = f.as_long;
      each = λ at low.
          elim (start_or_not at) [
            | inr inside ↦ inl (f.inside at low inside.1)
            | inl start ↦
                elim (place_of base len at) [
                  | Before l ↦ inl (f.before at low l)
                  | Within a b ↦ inr (f.stops at a b start.1, start.1)
                  | Behind p ↦ inl (f.behind at p)
                ]
          ];
    }

-- a text that is the final one, but for stops at bundle starts, is so with one more byte of the final one put
nearly_put : (final view : List ℕ) (at byte : ℕ) → InRegion view at → byte ≡ byte_at final at → IsNearly final view
    → IsNearly final (set view (at - 65536) byte)
nearly_put final view at byte inside is n =
    record {
      as_long = length-set view (at - 65536) byte ∙ n.as_long;
      each = λ place low.
          elim (eqb_tells place at) [
            | inl same ↦ inl
                (subst (λ (p : ℕ). byte_at (set view (at - 65536) byte) p ≡ byte_at final p) (sym same.1)
                (byte_there view at byte inside ∙ is))
            | inr other ↦
                let beside = byte_at_other view at place byte inside.0 low other.1 in
                elim (n.each place low) [
                  | inl there ↦ inl (beside ∙ there)
                  | inr stop ↦ inr (beside ∙ stop.0, stop.1)
                ]
          ];
    }

-- two texts that are the final one, but for stops at bundle starts, differ at bundle starts only
nearly_same : (final one other : List ℕ) (at : ℕ) → IsNearly final one → IsNearly final other → 65536 ≤ at → at % 32 ≢ 0
    → byte_at one at ≡ byte_at other at
nearly_same final one other at n m low not =
    elim (n.each at low) [
      | inl same ↦
          elim (m.each at low) [
            | inl there ↦ same ∙ sym there
            | inr stop ↦ absurd (not stop.1)
          ]
      | inr stop ↦ absurd (not stop.1)
    ]

-- a byte of the final text put at a bundle start puts the instruction there whole
whole_start : (w : World) (final view text : List ℕ) (at byte : ℕ) → Good final w.marked.marks w.retired → InRegion view at
    → InRegion text at → IsBundleStart at → byte ≡ byte_at final at → IsNearly final view → IsNearly final text
    → PutsWhole w.marked.marks view text at byte
whole_start w final view text at byte good inside within start is n t =
    let good_view = nearly_good final view w.marked.marks w.retired good n in
    let n_put = nearly_put final view at byte inside is n in
    let good_put = nearly_good final (set view (at - 65536) byte) w.marked.marks w.retired good n_put in
    let marked : IsMarked w.marked.marks (state at None) =
    (inside.0, subst (λ (mark : Mark). Admits mark None) (sym (good_view.closed.starts at inside start)) tt) in
    whole_put_marked w.marked.marks w.retired view text (state at None) byte good_view inside.0 marked (λ i there k lt.
    let bundle = in_one_bundle (set view (at - 65536) byte) w.marked.marks (state at None) i good_put.closed marked there in
    elim (eqb_tells k 0) [
      | inl none ↦ put_in_both view text at byte k inside within (omega (arith, none.1))
      | inr some ↦
          nearly_same final (set text (at - 65536) byte) (set view (at - 65536) byte) (at + k) (nearly_put final text at byte within is t) n_put
          (omega (arith, inside.0)) (λ other. omega (arith, other, start, bundle, lt, some.1))
    ])

-- the final text has a chunk's bytes in its span
abbrev pub HasCode : List ℕ → ℕ → List ℕ → Type 0
HasCode final base code = (at : ℕ) → base ≤ at → at < base + length code → get_or code (at - base) 0 ≡ byte_at final at

-- a byte of the chunk stands in the final text
code_there : (final : List ℕ) (base : ℕ) (code : List ℕ) → HasCode final base code → (count : ℕ) → count < length code
    → get_or code count 0 ≡ byte_at final (base + count)
code_there final base code has count lt =
    let e : base + count - base ≡ count = omega arith in
    ap (λ (n : ℕ). get_or code n 0) (sym e) ∙ has (base + count) (omega arith) (omega (arith, lt))

-- the bundle starts may be put
pub may_lay_starts : (w : World) (final : List ℕ) (base : ℕ) (code : List ℕ) → 65536 ≤ base → Good final w.marked.marks w.retired
    → HasCode final base code → MayLay w is_start base code (IsNearly final)
may_lay_starts w final base code above good has =
    record {
      low = above;
      good = λ view n. nearly_good final view w.marked.marks w.retired good n;
      put = λ view count lt chosen inside n.
          nearly_put final view (base + count) (get_or code count 0) inside (code_there final base code has count lt) n;
      whole = λ view text count lt chosen inside within n t.
          whole_start w final view text (base + count) (get_or code count 0) good inside within (start_is (base + count) chosen)
          (code_there final base code has count lt) n t;
    }
  where
    start_is : (at : ℕ) → is_start at ≡ true → IsBundleStart at
    start_is at chosen = elim (start_or_not at) [ inl start ↦ start.1 | inr inside ↦ absurd (false≢true (sym inside.0 ∙ chosen)) ]

-- all but the bundle starts may be put again
pub may_lay_again : (w : World) (final : List ℕ) (base : ℕ) (code : List ℕ) → 65536 ≤ base → Good final w.marked.marks w.retired
    → HasCode final base code → MayLay w is_inside base code (IsNearly final)
may_lay_again w final base code above good has =
    record {
      low = above;
      good = λ view n. nearly_good final view w.marked.marks w.retired good n;
      put = λ view count lt chosen inside n.
          nearly_put final view (base + count) (get_or code count 0) inside (code_there final base code has count lt) n;
      whole = λ view text count lt chosen inside within n t.
          whole_put_same w.marked.marks view text (base + count) (get_or code count 0)
          (stands view (base + count) chosen inside.0 n ∙ sym (code_there final base code has count lt));
    }
  where
    stands : (view : List ℕ) (at : ℕ) → is_inside at ≡ true → 65536 ≤ at → IsNearly final view → byte_at view at ≡ byte_at final at
    stands view at chosen low n =
        elim (n.each at low) [
          | inl same ↦ same
          | inr stop ↦ absurd (false≢true (sym (is_inside_false at stop.1) ∙ chosen))
        ]

-- a text with a chunk that joins it is a text (`IsText`)
final_text : (marked : MarkedText) (base : ℕ) (code : List ℕ) (marks : List Mark) → IsText marked → Joins marked base code marks
    → IsText (with_chunk marked base code marks)
final_text marked base code marks whole j =
    let bytes_long : length (with_span marked.bytes (base - 65536) code) ≡ length marked.bytes =
    length-with_span marked.bytes (base - 65536) code (omega (arith, j.chunk.placed.low, j.chunk.placed.high)) in
    let marks_long : length (with_span marked.marks (base - 65536) marks) ≡ length marked.marks =
    length-with_span marked.marks (base - 65536) marks
    (omega (arith, j.chunk.placed.low, j.chunk.placed.high, j.chunk.as_long, whole.as_long)) in
    record {
      lawful = subst IsLawfulLimit (ap (λ (n : ℕ). 65536 + n) (sym bytes_long)) whole.lawful;
      as_long = marks_long ∙ (whole.as_long ∙ sym bytes_long);
      closed = chunk_joins marked base code marks j;
    }

-- a valid chunk fits into a region's text
pub chunk_fits : (marked : MarkedText) (chunks : List Chunk) (v : MarkedChunk) (k : ℕ) → IsRegion marked chunks → IsValid v
    → v.limit ≡ limit_of marked.bytes → FitsAt v.base (length v.code) chunks k → Joins marked v.base v.code v.marks
chunk_fits marked chunks v k region valid limit fit =
    let chunk : IsClosedChunk v.base (limit_of marked.bytes) v.code v.marks =
    subst (λ (l : ℕ). IsClosedChunk v.base l v.code v.marks) limit (valid_chunk_is_closed v valid) in
    record {
      closed = region.whole.closed;
      as_long = region.whole.as_long;
      chunk = chunk;
      unused = unused_if_apart marked chunks k v.base (length v.code) region chunk.placed fit.1 fit.2;
    }

-- the text with a valid chunk put in where it fits is a region's
pub created_region : (marked : MarkedText) (chunks : List Chunk) (v : MarkedChunk) (k : ℕ) → IsRegion marked chunks → IsValid v
    → v.limit ≡ limit_of marked.bytes → FitsAt v.base (length v.code) chunks k
    → IsRegion (with_chunk marked v.base v.code v.marks) (insert chunks k (live_chunk v))
created_region marked chunks v k region valid limit fit =
    let j = chunk_fits marked chunks v k region valid limit fit in
    region_with_chunk marked chunks k (live_chunk v) v.code v.marks
    (record {
      region = region;
      vetted = v;
      valid = valid;
      base_is = refl;
      limit_is = limit;
      code_is = refl;
      marks_is = refl;
      chunk = j.chunk;
      long = refl;
      above = fit.1;
      below = fit.2;
    })
    tt (final_text marked v.base v.code v.marks region.whole j)

-- what is known where a chunk is created in a world
pub record Creates (w : World) (chunks : List Chunk) (k base : ℕ) (code : List ℕ) (marks : List Mark) : Type 0 where
  pub keeps : Keeps w
  pub views : ViewsKeep w chunks
  pub fit : FitsAt base (length code) chunks k
  pub joins : Joins w.marked base code marks
  pub final : Good (with_chunk w.marked base code marks).bytes (with_chunk w.marked base code marks).marks w.retired

-- the world in which the chunk is marked and its bundle starts aren't put
abbrev pub marked_world : World → ℕ → List ℕ → List Mark → List ℕ → World
marked_world w base code marks mid = record (serialized w mid) { marked = text_of mid (with_chunk w.marked base code marks).marks }

-- the marks may be set
pub marking_leads : (w : World) (chunks : List Chunk) (k base : ℕ) (code : List ℕ) (marks : List Mark) (mid : List ℕ)
    → Creates w chunks k base code marks → length mid ≡ length w.marked.bytes
    → IsNearly (with_chunk w.marked base code marks).bytes mid
    → Leads (serialized w mid) (Marks base marks ∷ []) (marked_world w base code marks mid)
marking_leads w chunks k base code marks mid c long nearly =
    let placed = c.joins.chunk.placed in
    let good = nearly_good (with_chunk w.marked base code marks).bytes mid (with_chunk w.marked base code marks).marks w.retired
    c.final nearly in
    leads_one (serialized w mid) (Marks base marks) (
      λ j lt. (omega (arith, placed.low), omega (arith, placed.high, lt, c.joins.chunk.as_long, long)),
      chunk_keeps w.marked base code marks c.joins,
      λ view v. subst (λ (z : List ℕ). IsClosed z (with_chunk w.marked base code marks).marks
          × All (IsShut z (with_chunk w.marked base code marks).marks) w.retired) (sym (only_as_it_stands mid view v)) (good.closed, good.shut),
    )
    (λ whole. whole_serialized (with_chunk w.marked base code marks).marks mid)

-- The acts of a deletion are allowed events.
use Rattle.std.proofs.Common.{◌≡◌, ◌≢◌, ℕ, Bool, ◌+◌, ◌-◌, ◌<◌, ◌≤◌, ◌⊎◌, true, not, All, List, [], ◌∷◌, ◌++◌, length, get_or, set}
use Rattle.std.proofs.Common.{replicate, Option, Some, None, inl, inr, arith, refl, ◌∙◌, sym, ap, subst, ⊎_elim}
use Rattle.std.proofs.lemmas.Bool.{cases_lt, false≢true}
use Rattle.std.proofs.lemmas.Bool.Decides.{eqb_tells}
use Rattle.std.proofs.lemmas.List.{length-replicate, get_or-replicate, length-set}
use Rattle.std.proofs.lemmas.List.Elements.{All-weaker}
use Rattle.nc_decode.specs.declared.instruction.Instr.{Instr}
use Rattle.nc_decode.specs.declared.instruction.Mark.{Mark}
use Rattle.nc_decode.specs.declared.instruction.Mark.TheVariants.{Unmarked, Plain, After}
use Rattle.nc_decode.specs.Bundles.{IsLawfulLimit}
use Rattle.nc_text.specs.Places.{limit_of, byte_at, instruction_at}
use Rattle.nc_text.specs.Machine.{State, state}
use Rattle.nc_text.specs.Marks.{Admits, IsMarked, mark_at}
use Rattle.nc_text.specs.MarkedText.{MarkedText, with_span}
use Rattle.nc_text.proofs.Offered.{executes, length-with_span, is_with_span, get_or-with_span_in, get_or-with_span_below, get_or-with_span_above}
use Rattle.nc_list.specs.declared.chunk.Chunk.{Chunk}
use Rattle.nc_list.specs.declared.chunk.ChunkState.TheVariants.{Retired}
use Rattle.nc_region.specs.schedules.Spans.{IsQuiet, IsShut}
use Rattle.nc_region.specs.schedules.World.{World, AreApart}
use Rattle.nc_region.specs.schedules.Events.{Serializes, Retires, IsAllowed, after, new_span}
use Rattle.nc_region.proofs.Offered.{Keeps, shut_if_quiet, as_it_stands}
use Rattle.nc_acts.proofs.Offered.{admits_is_mark}
use Rattle.nc_acts.specs.Acts.{is_mark, is_marked_at, is_unmarked_at, puts_where}
use Rattle.nc_acts.specs.Chunks.{HasGoodSpan}
use Rattle.nc_text.specs.Puts.{HasPut}
use Rattle.nc_text.proofs.Offered.{byte_at_other}
use Rattle.nc_base.specs.Each.{Each}
use Rattle.nc_region.specs.Region.{IsLive, IsAscending, IsRegion}
use Rattle.nc_region.proofs.Offered.{region_deleted, quiet_chunks, ascending_get}
use Rattle.nc_acts.proofs.Offered.{all_stops}
use Rattle.nc_base.proofs.Offered.{each_get, each_from, each_at_set}
use Rattle.nc_text.proofs.Offered.{place_of, Before, Within, Behind}
use Rattle.nc_acts.proofs.Offered.{before_span}
use Rattle.nc_histories.specs.Calls.{no_details}
use Rattle.nc_histories.specs.Views.{ViewsKeep}
use Rattle.nc_histories.proofs.Creation.{in_one_bundle}
use Rattle.nc_histories.proofs.Entries.{events_of}
use Rattle.nc_histories.proofs.Good.{text_of, Good, KeepsInstruction, step_back, stop_ends}
use Rattle.nc_histories.proofs.OnePut.{good_put_marked, good_put_unread, byte_there}
use Rattle.nc_histories.proofs.Parting.{Kept, region_stopped}
use Rattle.nc_histories.proofs.PutsWhole.{whole_put_unread, whole_put_stop}
use Rattle.nc_histories.proofs.Putting.{with_text, serialized, Views, Leads, Reaches, leads_one, leads_more, serialization_leads, serialized_views, MayLay, lay_all}
use Rattle.nc_list.proofs.Offered.{ascending_apart}
use Rattle.nc_histories.proofs.RetiredSpans.{AreSpansOf, IsBeside, all_spans, retired_each}

-- what is marked stands for some state
pub marked_state : (mark : Mark) → is_mark mark ≡ true → (masked : Option ℕ) × Admits mark masked
marked_state Unmarked is = absurd (false≢true is)
marked_state Plain is = (None, tt)
marked_state (After register) is = (Some register, refl)

-- a place is unmarked, or marked
pub unmarked_or_mark : (mark : Mark) → (mark ≡ Unmarked) ⊎ (is_mark mark ≡ true)
unmarked_or_mark Unmarked = inl refl
unmarked_or_mark Plain = inr refl
unmarked_or_mark (After register) = inr refl

-- each byte of a list of stops is a stop
stop_byte : (len k : ℕ) → k < len → get_or (replicate {A = ℕ} len 244) k 0 ≡ 244
stop_byte len k lt = get_or-replicate len k 244 0 lt

-- the retired spans lie beside a live chunk
pub live_beside : (chunks : List Chunk) (k : ℕ) (c : Chunk) → IsAscending 65536 chunks → k < length chunks → get_or chunks k c ≡ c
    → IsLive c.state
    → Each (λ (d : Chunk). (stamp : ℕ) → d.state ≡ Retired stamp → IsBeside c.base c.length
    (record { base = d.base; length = d.length; stamp = stamp })) chunks
live_beside chunks k c ascending lt here live =
    each_from (λ (d : Chunk). (stamp : ℕ) → d.state ≡ Retired stamp → IsBeside c.base c.length
    (record { base = d.base; length = d.length; stamp = stamp })) chunks c
    (λ i inside stamp is. (
      ascending_get 65536 chunks i c ascending inside,
      ⊎_elim
          (λ (before : i < k). inl (omega (arith, ascending_apart 65536 chunks i k c ascending before lt, ap (λ (x : Chunk). x.base) here)))
          (λ (from : k ≤ i).
          ⊎_elim
          (λ (behind : k < i). inr
          (omega (arith, ascending_apart 65536 chunks k i c ascending behind inside, ap (λ (x : Chunk). x.base + x.length) here)))
          (λ (to : i ≤ k).
          let same : i ≡ k = omega (arith, from, to) in
          let at : get_or chunks i c ≡ c = ap (λ (n : ℕ). get_or chunks n c) same ∙ here in
          absurd (subst IsLive (sym (ap (λ (x : Chunk). x.state) at) ∙ is) live))
          (cases_lt k i))
          (cases_lt i k),
    ))

-- what is known where a live chunk is deleted in a world
pub record IsDeleting (w : World) (chunks : List Chunk) (k : ℕ) (c : Chunk) : Type 0 where
  pub keeps : Keeps w
  pub views : ViewsKeep w chunks
  pub region : IsRegion w.marked chunks
  pub spans : AreSpansOf w.retired chunks
  pub inside : k < length chunks
  pub here : get_or chunks k c ≡ c
  pub live : IsLive c.state

-- a chunk that is deleted lies in the region
pub placed_there : (w : World) (chunks : List Chunk) (k : ℕ) (c : Chunk) → IsDeleting w chunks k c
    → HasGoodSpan c.base (limit_of w.marked.bytes) c.length
placed_there w chunks k c r =
    subst (λ (d : Chunk). HasGoodSpan d.base (limit_of w.marked.bytes) d.length) r.here
    (each_get (λ (d : Chunk). HasGoodSpan d.base (limit_of w.marked.bytes) d.length) chunks k c r.inside r.region.placed)

-- the retired spans lie beside a chunk that is deleted
beside_there : (w : World) (chunks : List Chunk) (k : ℕ) (c : Chunk) → IsDeleting w chunks k c → All (IsBeside c.base c.length) w.retired
beside_there w chunks k c r =
    all_spans (IsBeside c.base c.length) w.retired chunks r.spans
    (retired_each (IsBeside c.base c.length) chunks (live_beside chunks k c r.region.ascending r.inside r.here r.live))

-- ---- stops at the marked places

-- at marked places stops may be put
pub may_lay_marked : (w : World) (base len : ℕ) → 65536 ≤ base
    → MayLay w (is_marked_at w.marked.marks) base (replicate len 244) (λ view. Good view w.marked.marks w.retired)
may_lay_marked w base len low =
    record {
      low = low;
      good = λ view g. g;
      put = λ view count lt chosen inside g.
          let s = marked_state (mark_at w.marked.marks (base + count)) chosen in
          good_put_marked view w.marked.marks w.retired (state (base + count) s.0) (get_or (replicate len 244) count 0) g inside
          (inside.0, s.1) (inl (stop_byte len count (omega (arith, lt, length-replicate {A = ℕ} len 244))));
      whole = λ view text count lt chosen inside within g t.
          let s = marked_state (mark_at w.marked.marks (base + count)) chosen in
          whole_put_stop w.marked.marks w.retired view text (state (base + count) s.0) (get_or (replicate len 244) count 0) g inside within
          (inside.0, s.1) (stop_byte len count (omega (arith, lt, length-replicate {A = ℕ} len 244)));
    }

-- ---- stops at the others

-- the text is good, it is as another outside the span, and in the span each marked place is a stop
pub record Emptied (w : World) (base len : ℕ) (mid view : List ℕ) : Type 0 where
  pub good : Good view w.marked.marks w.retired
  pub as_long : length view ≡ length mid
  pub stops : (now : State) → IsMarked w.marked.marks now → base ≤ now.place → now.place < base + len → byte_at view now.place ≡ 244
  pub outside : (at : ℕ) → 65536 ≤ at → (at < base) ⊎ (base + len ≤ at) → byte_at view at ≡ byte_at mid at

-- no instruction has an unmarked place of the span
emptied_clear : (w : World) (base len : ℕ) (mid view : List ℕ) (at : ℕ) → HasGoodSpan base (limit_of w.marked.bytes) len
    → Emptied w base len mid view → base ≤ at → at < base + len → is_unmarked_at w.marked.marks at ≡ true
    → (now : State) (i : Instr) (k : ℕ) → IsMarked w.marked.marks now → instruction_at view now.place ≡ Some i → k < i.len
    → now.place + k ≢ at
emptied_clear w base len mid view at placed f low high is_unmarked now i k m is lt same =
    elim (place_of base len now.place) [
      | Before l ↦ (let under = before_span now.place i.len k base (in_one_bundle view w.marked.marks now i f.good.closed m is) lt
          placed.start l in omega (arith, under, same, low))
      | Within a b ↦
          let e = executes view now m.0 (f.good.closed.safe now m) in
          let marked = admits_is_mark (mark_at w.marked.marks now.place) now.masked m.1 in
          elim (eqb_tells k 0) [
            | inl none ↦
                let here : now.place ≡ at = omega (arith, same, none.1) in
                false≢true (sym (ap not (subst (λ (p : ℕ). is_marked_at w.marked.marks p ≡ true) here marked)) ∙ is_unmarked)
            | inr some ↦ stop_ends view now.place k i e.inside (f.stops now m a b) is (omega (arith, some.1)) lt
          ]
      | Behind p ↦ omega (arith, p, same, high)
    ]

-- at the unmarked places of a span stops may be put
pub may_lay_others : (w : World) (base len : ℕ) (mid : List ℕ) → HasGoodSpan base (limit_of w.marked.bytes) len
    → MayLay w (is_unmarked_at w.marked.marks) base (replicate len 244) (Emptied w base len mid)
may_lay_others w base len mid placed =
    let n = length-replicate {A = ℕ} len 244 in
    record {
      low = placed.low;
      good = λ view f. f.good;
      put = λ view count lt chosen inside f.
          let stop = stop_byte len count (omega (arith, lt, n)) in
          record {
            good = good_put_unread view w.marked.marks w.retired (base + count) (get_or (replicate len 244) count 0) f.good inside.0
                (emptied_clear w base len mid view (base + count) placed f (omega arith) (omega (arith, lt, n)) chosen);
            as_long = length-set view (base + count - 65536) (get_or (replicate len 244) count 0) ∙ f.as_long;
            stops = λ now m low high.
                elim (eqb_tells now.place (base + count)) [
                  | inl same ↦
                      ap (λ (p : ℕ). byte_at (set view (base + count - 65536) (get_or (replicate len 244) count 0)) p) same.1
                      ∙ (byte_there view (base + count) (get_or (replicate len 244) count 0) inside ∙ stop)
                  | inr other ↦
                      byte_at_other view (base + count) now.place (get_or (replicate len 244) count 0) inside.0 m.0 other.1
                      ∙ f.stops now m low high
                ];
            outside = λ at low out.
                byte_at_other view (base + count) at (get_or (replicate len 244) count 0) inside.0 low
                (λ same. elim out [ inl l ↦ omega (arith, l, same) | inr b ↦ omega (arith, b, same, lt, n) ])
                ∙ f.outside at low out;
          };
      whole = λ view text count lt chosen inside within f t.
          whole_put_unread w.marked.marks w.retired view text (base + count) (get_or (replicate len 244) count 0) f.good inside.0
          (emptied_clear w base len mid view (base + count) placed f (omega arith) (omega (arith, lt, n)) chosen);
    }

-- a good text with stops put at all marked places of a span is as it has to be before the unmarked ones (`Emptied`)
emptied_first : (w : World) (base len : ℕ) (now mid : List ℕ) → Good mid w.marked.marks w.retired
    → HasPut (is_marked_at w.marked.marks) base (replicate len 244) len now mid → Emptied w base len mid mid
emptied_first w base len now mid good has =
    record {
      good = good;
      as_long = refl;
      stops = λ now m low high.
          has.put now.place low high (admits_is_mark (mark_at w.marked.marks now.place) now.masked m.1)
          ∙ stop_byte len (now.place - base) (omega arith);
      outside = λ at low out. refl;
    }

-- outside the span of a deletion an instruction of one view is as in another
emptied_keeps : (w : World) (base len : ℕ) (mid view other : List ℕ) (now : State) → HasGoodSpan base (limit_of w.marked.bytes) len
    → Emptied w base len mid view → Emptied w base len mid other → IsMarked w.marked.marks now
    → (base ≤ now.place → now.place < base + len → ⊥) → KeepsInstruction other view now.place
emptied_keeps w base len mid view other now placed f g m out = λ i is fits k lt.
    let beside : (now.place + k < base) ⊎ (base + len ≤ now.place + k) =
    elim (place_of base len now.place) [
      | Before l ↦ inl (before_span now.place i.len k base fits lt placed.start l)
      | Within a b ↦ absurd (out a b)
      | Behind p ↦ inr (omega (arith, p))
    ] in
    f.outside (now.place + k) (omega (arith, m.0)) beside ∙ sym (g.outside (now.place + k) (omega (arith, m.0)) beside)

-- the span of a deletion is shut in one view where it is in another
emptied_shut : (w : World) (base len stamp : ℕ) (mid view other : List ℕ) → HasGoodSpan base (limit_of w.marked.bytes) len
    → Emptied w base len mid view → Emptied w base len mid other
    → IsShut other w.marked.marks (record { base = base; length = len; stamp = stamp })
    → IsShut view w.marked.marks (record { base = base; length = len; stamp = stamp })
emptied_shut w base len stamp mid view other placed f g shut =
    record {
      stops = λ now m inside. f.stops now m inside.0 inside.1;
      unreached = λ now next m out step.
          shut.unreached now next m out
          (step_back other view w.marked.marks now next g.good.closed (f.as_long ∙ sym g.as_long) m
          (emptied_keeps w base len mid view other now placed f g m (λ a b. out (a, b))) step);
    }

-- ---- the whole deletion

-- the text in which the chunk is stops
abbrev pub stopped : World → Chunk → MarkedText
stopped w c = text_of (with_span w.marked.bytes (c.base - 65536) (replicate c.length 244)) w.marked.marks

-- the text in which the chunk is stops is as long as it was
stopped_long : (w : World) (chunks : List Chunk) (k : ℕ) (c : Chunk) → IsDeleting w chunks k c
    → length (stopped w c).bytes ≡ length w.marked.bytes
stopped_long w chunks k c r =
    let p = placed_there w chunks k c r in
    length-with_span w.marked.bytes (c.base - 65536) (replicate c.length 244)
    (omega (arith, length-replicate {A = ℕ} c.length 244, p.low, p.high))

-- the list with the chunk retired
abbrev retired_list : World → List Chunk → ℕ → Chunk → List Chunk
retired_list w chunks k c = set chunks k (record c { state = Retired (w.keeper.generation + 1) })

-- the text with the chunk's stops and the list with the chunk retired are a region
region_after : (w : World) (chunks : List Chunk) (k : ℕ) (c : Chunk) → IsDeleting w chunks k c
    → Good (stopped w c).bytes w.marked.marks w.retired → IsRegion (stopped w c) (retired_list w chunks k c)
region_after w chunks k c r good =
    let long = stopped_long w chunks k c r in
    region_deleted w.marked (stopped w c) chunks k c (w.keeper.generation + 1)
    (record {
      region = r.region;
      inside = r.inside;
      here = r.here;
      live = r.live;
      whole = record {
        lawful = subst IsLawfulLimit (ap (λ (z : ℕ). 65536 + z) (sym long)) r.region.whole.lawful;
        as_long = r.region.whole.as_long ∙ sym long;
        closed = good.closed;
      };
      bytes_are = refl;
      marks_are = refl;
    })

-- the span of a deleted chunk may be retired once stops have been put in all of it
may_retire : (w : World) (chunks : List Chunk) (k : ℕ) (c : Chunk) (earlier : List (List ℕ)) (mid : List ℕ) → IsDeleting w chunks k c
    → Views (Emptied w c.base c.length mid) (stopped w c).bytes earlier
    → IsAllowed (record w { marked = stopped w c; earlier = earlier }) (Retires c.base c.length)
may_retire w chunks k c earlier mid r views =
    let p = placed_there w chunks k c r in
    let long = stopped_long w chunks k c r in
    let here = views (stopped w c).bytes (as_it_stands (stopped w c).bytes earlier) in
    let after = region_after w chunks k c r here.good in
    let quiet = each_at_set
    (λ (d : Chunk). (IsLive d.state → ⊥) → (stamp : ℕ) → IsQuiet (stopped w c).bytes (stopped w c).marks
    (record { base = d.base; length = d.length; stamp = stamp })) chunks k (record c { state = Retired (w.keeper.generation + 1) }) r.inside
    (quiet_chunks (stopped w c) (retired_list w chunks k c) after) in
    let shut = shut_if_quiet (stopped w c).bytes w.marked.marks
    (record { base = c.base; length = c.length; stamp = w.keeper.generation + 1 }) (quiet (λ live. live) (w.keeper.generation + 1)) in (
      record { start = p.start; bundles = p.whole; low = p.low; high = omega (arith, p.high, long) },
      All-weaker (IsBeside c.base c.length) (AreApart (new_span (record w { marked = stopped w c }) c.base c.length))
          (λ span b. elim b.1 [ inl l ↦ inr l | inr h ↦ inl h ]) w.retired (beside_there w chunks k c r),
      λ view v. emptied_shut w c.base c.length (w.keeper.generation + 1) mid view (stopped w c).bytes p (views view v) here shut,
    )

-- ---- from a text in which some stops of the span were put before

-- a text is as long as another, and as that one is outside the span
pub record Agrees (base len : ℕ) (old now : List ℕ) : Type 0 where
  pub as_long : length now ≡ length old
  pub outside : (at : ℕ) → 65536 ≤ at → (at < base) ⊎ (base + len ≤ at) → byte_at now at ≡ byte_at old at

-- a text that agrees with another outside a span does so after more puts in the span
pub put_agrees : (chosen : ℕ → Bool) (base len count : ℕ) (bytes old now new : List ℕ) → count ≤ len
    → HasPut chosen base bytes count now new → Agrees base len old now → Agrees base len old new
put_agrees chosen base len count bytes old now new le has a =
    record {
      as_long = has.as_long ∙ a.as_long;
      outside = λ at low out.
          elim out [
            | inl l ↦ has.below at low l ∙ a.outside at low (inl l)
            | inr b ↦ has.above at (omega (arith, b, le)) ∙ a.outside at low (inr b)
          ];
    }

-- a text that agrees with another outside a span has its elements there
agrees_at : (base len : ℕ) (old now : List ℕ) (k : ℕ) → Agrees base len old now → (65536 + k < base) ⊎ (base + len ≤ 65536 + k)
    → get_or now k 0 ≡ get_or old k 0
agrees_at base len old now k a out =
    let e : 65536 + k - 65536 ≡ k = omega arith in
    subst (λ (i : ℕ). get_or now i 0 ≡ get_or old i 0) e (a.outside (65536 + k) (omega arith) out)

-- texts that agree outside a span are the same with stops in all of it
same_stopped : (base len : ℕ) (old now : List ℕ) → 65536 ≤ base → base + len ≤ 65536 + length old → Agrees base len old now
    → with_span now (base - 65536) (replicate len 244) ≡ with_span old (base - 65536) (replicate len 244)
same_stopped base len old now low fits a =
    let n = length-replicate {A = ℕ} len 244 in
    let here : base - 65536 + length (replicate {A = ℕ} len 244) ≤ length old = omega (arith, n) in
    let there : base - 65536 + length (replicate {A = ℕ} len 244) ≤ length now = omega (arith, n, a.as_long) in
    is_with_span (with_span now (base - 65536) (replicate len 244)) old (base - 65536) (replicate len 244) 0 here
    (length-with_span now (base - 65536) (replicate len 244) there ∙ a.as_long)
    (λ k lt. get_or-with_span_below now (base - 65536) (replicate len 244) k 0 there lt ∙ agrees_at base len old now k a (inl (omega arith)))
    (λ k from lt. get_or-with_span_in now (base - 65536) (replicate len 244) k 0 there from lt)
    (λ k past.
    get_or-with_span_above now (base - 65536) (replicate len 244) k 0 there past
    ∙ agrees_at base len old now k a (inr (omega (arith, past, n))))

-- the text once stops are at all marked places, and nothing else was put since the last serialization
pub record HasStopped (w : World) (c : Chunk) (now : List ℕ) (before : List (List ℕ)) : Type 0 where
  pub mid : List ℕ
  pub earlier : List (List ℕ)
  pub leads : Leads (with_text w now before) (events_of (record no_details { base = c.base; len = c.length })
      (puts_where (is_marked_at w.marked.marks) c.base (replicate c.length 244))) (with_text w mid earlier)
  pub done : HasPut (is_marked_at w.marked.marks) c.base (replicate c.length 244) c.length now mid
  pub emptied : Emptied w c.base c.length mid mid

pub stops_marked : (w : World) (chunks : List Chunk) (k : ℕ) (c : Chunk) → IsDeleting w chunks k c → (now : List ℕ)
    (before : List (List ℕ)) → Agrees c.base c.length w.marked.bytes now → Views (λ view. Good view w.marked.marks w.retired) now before
    → HasStopped w c now before
stops_marked w chunks k c r now before agrees good =
    let p = placed_there w chunks k c r in
    let n = length-replicate {A = ℕ} c.length 244 in
    let a = lay_all w (record no_details { base = c.base; len = c.length }) (is_marked_at w.marked.marks) c.base (replicate c.length 244)
    now before (λ view. Good view w.marked.marks w.retired) (may_lay_marked w c.base c.length p.low)
    (omega (arith, n, p.high, agrees.as_long)) good in
    let done : HasPut (is_marked_at w.marked.marks) c.base (replicate c.length 244) c.length now a.bytes =
    subst (λ (l : ℕ). HasPut (is_marked_at w.marked.marks) c.base (replicate c.length 244) l now a.bytes) n a.has in
    record {
      mid = a.bytes;
      earlier = a.earlier;
      leads = a.leads;
      done = done;
      emptied = emptied_first w c.base c.length now a.bytes (a.views a.bytes (as_it_stands a.bytes a.earlier)) done;
    }

-- the chunk's acts lead to the text without it, with one more retired span
pub deletion_leads : (w : World) (chunks : List Chunk) (k : ℕ) (c : Chunk) → IsDeleting w chunks k c → (now : List ℕ)
    (before : List (List ℕ)) → Agrees c.base c.length w.marked.bytes now → Views (λ view. Good view w.marked.marks w.retired) now before
    → Reaches (with_text w now before) (events_of (record no_details { base = c.base; len = c.length })
    (puts_where (is_marked_at w.marked.marks) c.base (replicate c.length 244))
    ++ (Serializes ∷ (events_of (record no_details { base = c.base; len = c.length })
    (puts_where (is_unmarked_at w.marked.marks) c.base (replicate c.length 244)) ++ Retires c.base c.length ∷ [])))
    (after (record w { marked = stopped w c }) (Retires c.base c.length)) (Kept w.marked.marks (retired_list w chunks k c))
deletion_leads w chunks k c r now before agrees good =
    let p = placed_there w chunks k c r in
    let n = length-replicate {A = ℕ} c.length 244 in
    let a = stops_marked w chunks k c r now before agrees good in
    let b = lay_all w (record no_details { base = c.base; len = c.length }) (is_unmarked_at w.marked.marks) c.base
    (replicate c.length 244) a.mid [] (Emptied w c.base c.length a.mid) (may_lay_others w c.base c.length a.mid p)
    (omega (arith, n, p.high, a.done.as_long, agrees.as_long)) (serialized_views (Emptied w c.base c.length a.mid) a.mid a.emptied) in
    let same : b.bytes ≡ (stopped w c).bytes =
    all_stops now a.mid b.bytes w.marked.marks c.base c.length p.low (omega (arith, p.high, agrees.as_long)) a.done
    (subst (λ (l : ℕ). HasPut (is_unmarked_at w.marked.marks) c.base (replicate c.length 244) l a.mid b.bytes) n b.has)
    ∙ same_stopped c.base c.length w.marked.bytes now p.low (omega (arith, p.high)) agrees in
    let views : Views (Emptied w c.base c.length a.mid) (stopped w c).bytes b.earlier =
    subst (λ (z : List ℕ). Views (Emptied w c.base c.length a.mid) z b.earlier) same b.views in
    let second : Leads (serialized w a.mid) (events_of (record no_details { base = c.base; len = c.length })
    (puts_where (is_unmarked_at w.marked.marks) c.base (replicate c.length 244))) (record w { marked = stopped w c; earlier = b.earlier }) =
    subst (λ (z : List ℕ). Leads (serialized w a.mid) (events_of (record no_details { base = c.base; len = c.length })
    (puts_where (is_unmarked_at w.marked.marks) c.base (replicate c.length 244))) (with_text w z b.earlier)) same b.leads in
    let last = leads_one (record w { marked = stopped w c; earlier = b.earlier }) (Retires c.base c.length)
    (may_retire w chunks k c b.earlier a.mid r views) (λ whole. whole) in
    let here = views (stopped w c).bytes (as_it_stands (stopped w c).bytes b.earlier) in
    let region = region_after w chunks k c r here.good in
    record {
      earlier = b.earlier;
      leads = leads_more (with_text w now before) (with_text w a.mid a.earlier)
          (after (record w { marked = stopped w c; earlier = b.earlier })
          (Retires c.base c.length)) _ _ a.leads
          (leads_more (with_text w a.mid a.earlier) (serialized w a.mid) (after (record w { marked = stopped w c; earlier = b.earlier })
          (Retires c.base c.length)) (Serializes ∷ []) _ (serialization_leads w a.mid a.earlier)
          (leads_more (serialized w a.mid) (record w { marked = stopped w c; earlier = b.earlier })
          (after (record w { marked = stopped w c; earlier = b.earlier }) (Retires c.base c.length)) _ (Retires c.base c.length ∷ [])
          second last));
      views = λ view v.
          let f = views view v in
          record {
            parted = f.good.parted;
            stopped = λ now m free.
                elim (place_of c.base c.length now.place) [
                  | Before l ↦ f.outside now.place m.0 (inl l) ∙ (sym (here.outside now.place m.0 (inl l))
                      ∙ region_stopped (stopped w c) (retired_list w chunks k c) region now m free)
                  | Within x y ↦ f.stops now m x y
                  | Behind q ↦ f.outside now.place m.0 (inr q) ∙ (sym (here.outside now.place m.0 (inr q))
                      ∙ region_stopped (stopped w c) (retired_list w chunks k c) region now m free)
                ];
          };
    }

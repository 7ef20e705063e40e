-- A valid chunk is sound: with its marks it is closed in an otherwise empty text.
use Rattle.std.proofs.Common.{◌≡◌, ℕ, ◌+◌, ◌-◌, ◌%◌, ◌<◌, ◌≤◌, ◌⊎◌, List, [], ◌∷◌, length, get_or, take, drop, replicate, Option, Some}
use Rattle.std.proofs.Common.{None, inl, inr, arith, refl, ◌∙◌, sym, ap, subst, ⊎_elim, zero, suc}
use Rattle.std.proofs.lemmas.Bool.{cases_lt}
use Rattle.std.proofs.lemmas.List.{length-drop, length-take, length-replicate, get_or-replicate, get_or-take, get_or-drop, ext_get_or}
use Rattle.std.proofs.lemmas.List.FromFn.{length-map-range_with_len, get_or-map-range_with_len}
use Rattle.nc_decode.specs.declared.instruction.Instr.{Instr}
use Rattle.nc_decode.specs.declared.instruction.Flow.{Flow}
use Rattle.nc_decode.specs.declared.instruction.Flow.TheVariants.{Next, Branch, Jump, Call, IndirectJump, IndirectCall, Stop}
use Rattle.nc_decode.specs.declared.instruction.Mark.{Mark}
use Rattle.nc_decode.specs.declared.instruction.Mark.TheVariants.{Unmarked, Plain}
use Rattle.nc_decode.specs.Front.{first_instruction}
use Rattle.nc_decode.proofs.Offered.{has_its_length, depends_on_its_bytes, masks_only_before_next}
use Rattle.nc_text.specs.Places.{InRegion, IsTrampoline, limit_of, byte_at, instruction_at}
use Rattle.nc_text.specs.Machine.{State, state, LeadsBy, IsSafe, IsMaskedFor}
use Rattle.nc_decode.specs.Transfers.{target}
use Rattle.nc_decode.specs.Bundles.{IsInOneBundle}
use Rattle.nc_text.specs.Marks.{IsMarked, mark_at, Admits}
use Rattle.nc_text.specs.MarkedText.{with_span, unused_mark, unused_marks}
use Rattle.nc_text.proofs.Offered.{safe_if_executes, executes_stop, no_step_from_stop, leads_of, marked_within, plain_is_marked, length-with_span}
use Rattle.nc_acts.specs.Chunks.{IsClosedChunk}
use Rattle.nc_region.proofs.chunks.Instructions.{IsValid, IsReading, NoneCrosses, FollowsMask, PairsHold, IsDirect, IsIndirect, BeginsAt}
use Rattle.nc_region.proofs.chunks.Instructions.{IsTarget, mark_by, marks_of}
use Rattle.nc_region.proofs.chunks.Offsets.{Stands, stands_at, marks_long, marks_behind}
use Rattle.nc_text.proofs.Offered.{place_of, Before, Within, Behind, span_before, span_within, span_behind}
use Rattle.nc_acts.proofs.Offered.{unused_at_start}

-- an instruction of the chunk stands in the text with the chunk
instruction_in : (text code : List ℕ) (base k : ℕ) (i : Instr) → 65536 ≤ base → base + length code ≤ 65536 + length text
    → first_instruction (drop k code) ≡ Some i → k + i.len ≤ length code
    → instruction_at (with_span text (base - 65536) code) (base + k) ≡ Some i
instruction_in text code base k i low fits is short =
    let all = with_span text (base - 65536) code in
    let long = length-with_span text (base - 65536) code (omega (arith, low, fits)) in
    depends_on_its_bytes (drop k code) (drop (base + k - 65536) (with_span text (base - 65536) code)) i is
    (ext_get_or 0 (take i.len (drop (base + k - 65536) (with_span text (base - 65536) code))) (take i.len (drop k code))
    (omega (
      arith,
      long,
      low,
      fits,
      short,
      length-take i.len (drop (base + k - 65536) (with_span text (base - 65536) code)),
      length-take i.len (drop k code),
      length-drop (base + k - 65536) (with_span text (base - 65536) code),
      length-drop k code,
    ))
    (λ j lt.
    let near : j < i.len = omega (arith, lt, length-take i.len (drop (base + k - 65536) (with_span text (base - 65536) code))) in
    let e : base + k + j - 65536 ≡ base + k - 65536 + j = omega (arith, low) in
    let f : base + k + j - base ≡ k + j = omega arith in
    let byte = span_within text base code (base + k + j) 0 low fits (omega arith) (omega (arith, near, short)) in
    get_or-take i.len (drop (base + k - 65536) (with_span text (base - 65536) code)) j 0 near
    ∙ (get_or-drop (base + k - 65536) (with_span text (base - 65536) code) j 0
    ∙ (sym (ap (λ (n : ℕ). get_or (with_span text (base - 65536) code) n 0) e)
    ∙ (byte ∙ (ap (λ (n : ℕ). get_or code n 0) f ∙ (sym (get_or-drop k code j 0) ∙ sym (get_or-take i.len (drop k code) j 0 near))))))))

-- the mark of an instruction that is no indirect transfer is plain
plain_unless_indirect : (flow : Flow) (register : ℕ) → (IsIndirect flow → ⊥) → mark_by flow register ≡ Plain
plain_unless_indirect Next register not = refl
plain_unless_indirect Branch register not = refl
plain_unless_indirect Jump register not = refl
plain_unless_indirect Call register not = refl
plain_unless_indirect IndirectJump register not = absurd (not tt)
plain_unless_indirect IndirectCall register not = absurd (not tt)
plain_unless_indirect Stop register not = refl

-- at a bundle start an instruction's mark is plain
plain_at_start : (flow : Flow) (register : ℕ) (before : Option ℕ) (at : ℕ) → FollowsMask flow register before at → at % 32 ≡ 0
    → mark_by flow register ≡ Plain
plain_at_start Next register before at m start = refl
plain_at_start Branch register before at m start = refl
plain_at_start Jump register before at m start = refl
plain_at_start Call register before at m start = refl
plain_at_start IndirectJump register before at m start = absurd (m.1 start)
plain_at_start IndirectCall register before at m start = absurd (m.1 start)
plain_at_start Stop register before at m start = refl

-- every bundle start of a chunk begins an instruction that is no second half
starts_plain : (chunk : List Instr) (base : ℕ) (before : Option ℕ) (bytes : List ℕ) → IsReading bytes chunk → NoneCrosses base chunk
    → PairsHold before base chunk → (k : ℕ) → k < length bytes → (base + k) % 32 ≡ 0 → get_or (marks_of chunk) k Unmarked ≡ Plain
starts_plain [] base before bytes reading crossing pairs k lt start = absurd (omega (arith, lt, ap length reading))
starts_plain (i ∷ rest) base before bytes reading crossing pairs zero lt start =
    plain_at_start i.flow i.reg before base pairs.0 (omega (arith, start))
starts_plain (i ∷ rest) base before bytes reading crossing pairs (suc k) lt start =
    let own = has_its_length bytes i reading.0 in
    ⊎_elim
    (λ (short : suc k < i.len). absurd (omega (arith, short, crossing.0, start)))
    (λ (far : i.len ≤ suc k).
    let e : base + i.len + (suc k - i.len) ≡ base + suc k = omega (arith, far) in
    marks_behind i rest (suc k) own.0 far
    ∙ starts_plain rest (base + i.len) i.masks (drop i.len bytes) reading.1 crossing.1 pairs.1 (suc k - i.len)
    (omega (arith, lt, far, own.1, length-drop i.len bytes)) (ap (λ (n : ℕ). n % 32) e ∙ start))
    (cases_lt (suc k) i.len)

-- where an instruction begins that is no second half, the mark is plain
begins_plain : (chunk : List Instr) (base place : ℕ) (bytes : List ℕ) → IsReading bytes chunk → BeginsAt place base chunk
    → (base ≤ place) × (get_or (marks_of chunk) (place - base) Unmarked ≡ Plain)
begins_plain [] base place bytes reading begins = absurd begins
begins_plain (i ∷ rest) base place bytes reading begins =
    let own = has_its_length bytes i reading.0 in
    elim begins [
      | inl here ↦
          let e : place - base ≡ 0 = omega (arith, here.0) in
          (omega (arith, here.0), ap (λ (n : ℕ). get_or (marks_of (i ∷ rest)) n Unmarked) e ∙ plain_unless_indirect i.flow i.reg here.1)
      | inr further ↦
          let r = begins_plain rest (base + i.len) place (drop i.len bytes) reading.1 further in
          let e : place - base - i.len ≡ place - (base + i.len) = omega arith in (
            omega (arith, r.0),
            marks_behind i rest (place - base) own.0 (omega (arith, r.0))
                ∙ (ap (λ (n : ℕ). get_or (marks_of rest) n Unmarked) e ∙ r.1),
          )
    ]

-- the text and the marks of the chunk alone
abbrev text_of : ℕ → ℕ → List ℕ → List ℕ
text_of base limit code = with_span (replicate (limit - 65536) 244) (base - 65536) code

-- the marks of the text with only the chunk
abbrev alone_marks : ℕ → ℕ → List Instr → List Mark
alone_marks base limit chunk = with_span (unused_marks 65536 (limit - 65536)) (base - 65536) (marks_of chunk)

-- the chunk fits into the text
fits_text : (base limit : ℕ) (code : List ℕ) (chunk : List Instr) → IsValid base limit code chunk
    → base + length code ≤ 65536 + length (replicate {A = ℕ} (limit - 65536) 244)
fits_text base limit code chunk v = omega (arith, v.placed.high, length-replicate {A = ℕ} (limit - 65536) 244)

-- the chunk's marks fit into the marks of the text
fits_marks : (base limit : ℕ) (code : List ℕ) (chunk : List Instr) → IsValid base limit code chunk
    → base + length (marks_of chunk) ≤ 65536 + length (unused_marks 65536 (limit - 65536))
fits_marks base limit code chunk v = omega (
  arith,
  v.placed.high,
  marks_long chunk code v.reading,
  length-map-range_with_len unused_mark 65536 (limit - 65536),
)

-- how long the text with only the chunk is
text_long : (base limit : ℕ) (code : List ℕ) (chunk : List Instr) → IsValid base limit code chunk
    → limit_of (text_of base limit code) ≡ limit
text_long base limit code chunk v =
    omega (
      arith,
      v.placed.high,
      v.placed.low,
      length-with_span (replicate (limit - 65536) 244) (base - 65536) code
          (omega (arith, fits_text base limit code chunk v, v.placed.low)),
      length-replicate {A = ℕ} (limit - 65536) 244,
    )

-- the text with the chunk alone has marks up to its limit
marks_all_long : (base limit : ℕ) (code : List ℕ) (chunk : List Instr) → IsValid base limit code chunk
    → 65536 + length (alone_marks base limit chunk) ≡ limit
marks_all_long base limit code chunk v =
    omega (
      arith,
      v.placed.high,
      v.placed.low,
      length-with_span (unused_marks 65536 (limit - 65536)) (base - 65536) (marks_of chunk)
          (omega (arith, fits_marks base limit code chunk v, v.placed.low)),
      length-map-range_with_len unused_mark 65536 (limit - 65536),
    )

-- the mark of a place of the chunk
within_mark : (base limit : ℕ) (code : List ℕ) (chunk : List Instr) (at : ℕ) → IsValid base limit code chunk → base ≤ at
    → at < base + length code → mark_at (alone_marks base limit chunk) at ≡ get_or (marks_of chunk) (at - base) Unmarked
within_mark base limit code chunk at v a b =
    span_within (unused_marks 65536 (limit - 65536)) base (marks_of chunk) at Unmarked v.placed.low (fits_marks base limit code chunk v) a
    (omega (arith, b, marks_long chunk code v.reading))

-- outside the chunk's span the marks are unused ones
outside_mark : (base limit : ℕ) (code : List ℕ) (chunk : List Instr) (at : ℕ) → IsValid base limit code chunk → 65536 ≤ at → at < limit
    → (at < base) ⊎ (base + length code ≤ at) → mark_at (alone_marks base limit chunk) at ≡ unused_mark at
outside_mark base limit code chunk at v low high out =
    let unused = get_or-map-range_with_len unused_mark 65536 (limit - 65536) (at - 65536) at Unmarked (omega arith) (omega arith) in
    elim out [
      | inl l ↦ span_before (unused_marks 65536 (limit - 65536)) base (marks_of chunk) at Unmarked v.placed.low
          (fits_marks base limit code chunk v) low l ∙ unused
      | inr p ↦ span_behind (unused_marks 65536 (limit - 65536)) base (marks_of chunk) at Unmarked v.placed.low
          (fits_marks base limit code chunk v) (omega (arith, p, marks_long chunk code v.reading)) ∙ unused
    ]

-- outside the chunk's span stand stops
outside_byte : (base limit : ℕ) (code : List ℕ) (chunk : List Instr) (at : ℕ) → IsValid base limit code chunk → 65536 ≤ at → at < limit
    → (at < base) ⊎ (base + length code ≤ at) → byte_at (text_of base limit code) at ≡ 244
outside_byte base limit code chunk at v low high out =
    let stop = get_or-replicate {A = ℕ} (limit - 65536) (at - 65536) 244 0 (omega arith) in
    elim out [
      | inl l ↦ span_before (replicate (limit - 65536) 244) base code at 0 v.placed.low (fits_text base limit code chunk v) low l ∙ stop
      | inr p ↦ span_behind (replicate (limit - 65536) 244) base code at 0 v.placed.low (fits_text base limit code chunk v) p ∙ stop
    ]

-- every bundle start is plain
alone_start : (base limit : ℕ) (code : List ℕ) (chunk : List Instr) (at : ℕ) → IsValid base limit code chunk → 65536 ≤ at → at < limit
    → at % 32 ≡ 0 → mark_at (alone_marks base limit chunk) at ≡ Plain
alone_start base limit code chunk at v low high start =
    elim (place_of base (length code) at) [
      | Before l ↦ outside_mark base limit code chunk at v low high (inl l) ∙ unused_at_start at start
      | Within a b ↦
          let e : base + (at - base) ≡ at = omega (arith, a) in
          within_mark base limit code chunk at v a b
          ∙ starts_plain chunk base None code v.reading v.crossing v.pairs (at - base) (omega (arith, a, b))
          (ap (λ (n : ℕ). n % 32) e ∙ start)
      | Behind p ↦ outside_mark base limit code chunk at v low high (inr p) ∙ unused_at_start at start
    ]

-- where a step may lead: to a mark of the chunk, to a bundle start of the region or to the trampoline
abbrev IsLanding : List Mark → State → Type 0
IsLanding marks next = IsMarked marks next ⊎ IsTrampoline next.place

-- any bundle start below the limit is a landing
start_lands : (base limit : ℕ) (code : List ℕ) (chunk : List Instr) (next : State) → IsValid base limit code chunk → next.place < limit
    → next.place % 32 ≡ 0 → IsLanding (alone_marks base limit chunk) next
start_lands base limit code chunk next v high start =
    ⊎_elim
    (λ (zone : next.place < 65536). inr (zone, start))
    (λ (low : 65536 ≤ next.place). inl (plain_is_marked (alone_marks base limit chunk) next low
    (alone_start base limit code chunk next.place v low high start)))
    (cases_lt next.place 65536)

-- a good target is a landing
target_lands : (base limit : ℕ) (code : List ℕ) (chunk : List Instr) (place : ℕ) → IsValid base limit code chunk
    → IsTarget base limit (length code) chunk place → IsLanding (alone_marks base limit chunk) (state place None)
target_lands base limit code chunk place v good =
    elim good [
      | inl inside ↦
          inl (plain_is_marked (alone_marks base limit chunk) (state place None) (omega (arith, inside.0, v.placed.low))
          (within_mark base limit code chunk place v inside.0 inside.1 ∙ (begins_plain chunk base place code v.reading inside.2).1))
      | inr outside ↦ start_lands base limit code chunk (state place None) v outside.2 outside.1
    ]

-- behind an instruction of the chunk is a landing
behind_lands : (base limit : ℕ) (code : List ℕ) (chunk : List Instr) (k : ℕ) (masked : Option ℕ) → IsValid base limit code chunk
    → (s : Stands (IsTarget base limit (length code) chunk) base code (marks_of chunk) k masked)
    → IsLanding (alone_marks base limit chunk) (state (base + k + s.i.len) s.i.masks)
behind_lands base limit code chunk k masked v s =
    elim s.behind [
      | inl end ↦ start_lands base limit code chunk (state (base + k + s.i.len) s.i.masks) v (omega (arith, end, v.placed.high))
          (omega (arith, end, v.placed.start, v.placed.whole))
      | inr m ↦
          ⊎_elim
          (λ (short : k + s.i.len < length code).
          let e : base + k + s.i.len - base ≡ k + s.i.len = omega arith in
          inl (
            omega (arith, v.placed.low),
            subst (λ (mark : Mark). Admits mark s.i.masks)
                (sym (within_mark base limit code chunk (base + k + s.i.len) v (omega arith) (omega (arith, short))
                ∙ ap (λ (n : ℕ). get_or (marks_of chunk) n Unmarked) e)) m,
          ))
          (λ (end : length code ≤ k + s.i.len). start_lands base limit code chunk (state (base + k + s.i.len) s.i.masks) v
          (omega (arith, end, s.short, v.placed.high)) (omega (arith, end, s.short, v.placed.start, v.placed.whole)))
          (cases_lt (k + s.i.len) (length code))
    ]

-- each step of an instruction of the chunk lands
leads_land : (base limit : ℕ) (code : List ℕ) (chunk : List Instr) (k : ℕ) (masked : Option ℕ) → IsValid base limit code chunk
    → (s : Stands (IsTarget base limit (length code) chunk) base code (marks_of chunk) k masked) → (next : State) (flow : Flow)
    → s.i.flow ≡ flow → LeadsBy flow limit s.i (state (base + k) masked) next → IsLanding (alone_marks base limit chunk) next
leads_land base limit code chunk k masked v s next Next is leads =
    subst (IsLanding (alone_marks base limit chunk)) (sym leads) (behind_lands base limit code chunk k masked v s)
leads_land base limit code chunk k masked v s next Branch is leads =
    let none : s.i.masks ≡ None = masks_only_before_next (drop k code) s.i s.is (λ e. cc (e, is)) in
    elim leads [
      | inl falls ↦ subst (IsLanding (alone_marks base limit chunk)) (sym falls)
          (subst (λ (m : Option ℕ). IsLanding (alone_marks base limit chunk) (state (base + k + s.i.len) m)) none
          (behind_lands base limit code chunk k masked v s))
      | inr taken ↦ subst (IsLanding (alone_marks base limit chunk)) (sym taken)
          (target_lands base limit code chunk (target s.i (base + k)) v (s.targets (subst IsDirect (sym is) tt)))
    ]
leads_land base limit code chunk k masked v s next Jump is leads =
    subst (IsLanding (alone_marks base limit chunk)) (sym leads)
    (target_lands base limit code chunk (target s.i (base + k)) v (s.targets (subst IsDirect (sym is) tt)))
leads_land base limit code chunk k masked v s next Call is leads =
    subst (IsLanding (alone_marks base limit chunk)) (sym leads)
    (target_lands base limit code chunk (target s.i (base + k)) v (s.targets (subst IsDirect (sym is) tt)))
leads_land base limit code chunk k masked v s next IndirectJump is leads =
    elim leads [
      | inl to ↦ start_lands base limit code chunk next v to.2 to.1
      | inr unused ↦ absurd (unused (subst (λ (flow : Flow). IsMaskedFor flow s.i.reg masked) is s.may))
    ]
leads_land base limit code chunk k masked v s next IndirectCall is leads =
    elim leads [
      | inl to ↦ start_lands base limit code chunk next v to.2 to.1
      | inr unused ↦ absurd (unused (subst (λ (flow : Flow). IsMaskedFor flow s.i.reg masked) is s.may))
    ]
leads_land base limit code chunk k masked v s next Stop is leads = absurd leads

-- what stands at a marked place of the chunk
stands_here : (base limit : ℕ) (code : List ℕ) (chunk : List Instr) (now : State) → IsValid base limit code chunk → base ≤ now.place
    → now.place < base + length code → IsMarked (alone_marks base limit chunk) now
    → Stands (IsTarget base limit (length code) chunk) base code (marks_of chunk) (now.place - base) now.masked
stands_here base limit code chunk now v a b m =
    stands_at (IsTarget base limit (length code) chunk) chunk base None code v.reading v.crossing v.pairs v.targets
    (now.place - base) now.masked
    (subst (λ (mark : Mark). Admits mark now.masked) (within_mark base limit code chunk now.place v a b) m.1)

-- the instruction at a marked place of the chunk
instruction_here : (base limit : ℕ) (code : List ℕ) (chunk : List Instr) (now : State) → (v : IsValid base limit code chunk)
    → (a : base ≤ now.place) → (b : now.place < base + length code) → (m : IsMarked (alone_marks base limit chunk) now)
    → instruction_at (text_of base limit code) now.place ≡ Some (stands_here base limit code chunk now v a b m).i
instruction_here base limit code chunk now v a b m =
    let s = stands_here base limit code chunk now v a b m in
    let e : base + (now.place - base) ≡ now.place = omega (arith, a) in
    subst (λ (n : ℕ). instruction_at (text_of base limit code) n ≡ Some (stands_here base limit code chunk now v a b m).i) e
    (instruction_in (replicate (limit - 65536) 244) code base (now.place - base)
    (stands_here base limit code chunk now v a b m).i v.placed.low (fits_text base limit code chunk v) s.is s.short)

-- a marked place is one of the region
marked_inside : (base limit : ℕ) (code : List ℕ) (chunk : List Instr) (now : State) → IsValid base limit code chunk
    → IsMarked (alone_marks base limit chunk) now → InRegion (text_of base limit code) now.place
marked_inside base limit code chunk now v m = (
  m.0,
  omega (
    arith,
    marked_within (alone_marks base limit chunk) now m,
    marks_all_long base limit code chunk v,
    text_long base limit code chunk v,
  ),
)

-- a chunk that is valid by its reading is closed by itself
pub valid_is_closed : (base limit : ℕ) (code : List ℕ) (chunk : List Instr) → IsValid base limit code chunk
    → IsClosedChunk base limit code (marks_of chunk)
valid_is_closed base limit code chunk v =
    record {
      placed = v.placed;
      as_long = marks_long chunk code v.reading;
      closed = record {
        starts = λ at inside start. alone_start base limit code chunk at v inside.0
            (omega (arith, inside.1, text_long base limit code chunk v)) start;
        safe = λ now m.
            let inside = marked_inside base limit code chunk now v m in
            let stop : (now.place < base) ⊎ (base + length code ≤ now.place) → IsSafe (text_of base limit code) now = λ out.
            safe_if_executes (text_of base limit code) now
            (executes_stop (text_of base limit code) now inside
            (outside_byte base limit code chunk now.place v m.0
            (omega (arith, inside.1, text_long base limit code chunk v)) out)) in
            elim (place_of base (length code) now.place) [
              | Before l ↦ stop (inl l)
              | Within a b ↦
                  let s = stands_here base limit code chunk now v a b m in
                  let e : base + (now.place - base) ≡ now.place = omega (arith, a) in
                  safe_if_executes (text_of base limit code) now (record {
                    inside = inside;
                    i = (stands_here base limit code chunk now v a b m).i;
                    is = instruction_here base limit code chunk now v a b m;
                    permitted = (subst (λ (n : ℕ). IsInOneBundle n (stands_here base limit code chunk now v a b m).i.len) e s.fits, s.may);
                  })
              | Behind p ↦ stop (inr p)
            ];
        steps = λ now next m step.
            let inside = marked_inside base limit code chunk now v m in
            let stop : (now.place < base) ⊎ (base + length code ≤ now.place) → IsLanding (alone_marks base limit chunk) next = λ out.
            absurd (no_step_from_stop (text_of base limit code) now next
            (outside_byte base limit code chunk now.place v m.0
            (omega (arith, inside.1, text_long base limit code chunk v)) out) step) in
            elim (place_of base (length code) now.place) [
              | Before l ↦ stop (inl l)
              | Within a b ↦
                  let s = stands_here base limit code chunk now v a b m in
                  let e : now.place ≡ base + (now.place - base) = omega (arith, a) in
                  let leads = leads_of (text_of base limit code) now next (stands_here base limit code chunk now v a b m).i
                  (instruction_here base limit code chunk now v a b m) step in
                  leads_land base limit code chunk (now.place - base) now.masked v (stands_here base limit code chunk now v a b m) next
                  (stands_here base limit code chunk now v a b m).i.flow refl
                  (subst (λ (n : ℕ). LeadsBy (stands_here base limit code chunk now v a b m).i.flow limit
                  (stands_here base limit code chunk now v a b m).i (state n now.masked) next) e
                  (subst (λ (n : ℕ). LeadsBy (stands_here base limit code chunk now v a b m).i.flow n
                  (stands_here base limit code chunk now v a b m).i now next) (text_long base limit code chunk v) leads))
              | Behind p ↦ stop (inr p)
            ];
      };
    }

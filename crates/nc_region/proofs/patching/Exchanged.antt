-- A text in which one instruction of a live chunk is exchanged is closed, and holds the chunk.
use Rattle.std.proofs.Common.{◌≡◌, ◌≢◌, ℕ, ◌+◌, ◌-◌, ◌<◌, ◌≤◌, ◌⊎◌, List, ◌∷◌, ◌++◌, length, take, drop, get_or, Option, Some}
use Rattle.std.proofs.Common.{inl, inr, arith, refl, ◌∙◌, sym, ap, subst, append_assoc}
use Rattle.std.proofs.lemmas.List.{length-append, ext_get_or}
use Rattle.std.proofs.Math.Seq.{drop-append_seam}
use Rattle.nc_decode.specs.declared.instruction.Instr.{Instr}
use Rattle.nc_decode.specs.declared.instruction.Mark.{Mark}
use Rattle.nc_decode.specs.declared.instruction.Mark.TheVariants.{Unmarked}
use Rattle.nc_decode.specs.Bundles.{IsLawfulLimit}
use Rattle.nc_decode.proofs.Offered.{spells_some}
use Rattle.nc_vet.specs.Chunk.{Piece, code_of, place, marks_of}
use Rattle.nc_vet.specs.Chunk as vet
use Rattle.nc_vet.proofs.Offered.{code_of-append, place-append, length-marks_of}
use Rattle.nc_vet.proofs.Offered as places
use Rattle.nc_text.specs.Places.{InRegion, limit_of, byte_at, instruction_at}
use Rattle.nc_text.specs.Machine.{State}
use Rattle.nc_text.specs.Marks.{IsMarked, IsClosed, mark_at, Admits}
use Rattle.nc_text.specs.MarkedText.{MarkedText, IsText, with_span, unused_mark, unused_text}
use Rattle.nc_text.proofs.Offered.{closed_by_parts, executes, marked_within}
use Rattle.nc_text.proofs.Offered.{length-with_span, get_or-with_span_in, get_or-with_span_below, get_or-with_span_above}
use Rattle.nc_list.specs.declared.chunk.Chunk.{Chunk}
use Rattle.nc_acts.specs.Chunks.{IsClosedChunk}
use Rattle.nc_region.specs.Region.{IsInChunk, HoldsValid}
use Rattle.nc_region.specs.machinery.PatchSteps.{Begins, IsReplacing}
use Rattle.nc_text.proofs.Offered.{Before, Within, Behind, place_of, span_within, span_before, span_behind}
use Rattle.nc_acts.proofs.Offered.{unused_is_start}
use Rattle.nc_acts.proofs.Offered.{before_span, within_span}
use Rattle.nc_acts.proofs.Offered.{alone, alone_fits_bytes, alone_within, alone_before, alone_behind, alone_bytes_long, alone_marks_long}
use Rattle.nc_region.proofs.chunks.Pieces.{valid_chunk_is_closed}
use Rattle.nc_region.proofs.patching.NewInstructions.{take_seam}
use Rattle.nc_base.proofs.Offered.{some_same}
use Rattle.nc_region.proofs.patching.Standing.{Lies, lies, stands_with}
use Rattle.nc_region.proofs.patching.Exchanging.{Exchanges, exchanged, exchanged_valid, code_long, where_is, Here, Earlier, Later}

-- ---- a chunk's bytes set anew under the marks that stand there

-- other bytes of a sound chunk with the marks that stand in its span
pub record Renews (marked : MarkedText) (c : Chunk) (bytes : List ℕ) (marks : List Mark) : Type 0 where
  pub whole : IsText marked
  pub lies : Lies marked c
  pub chunk : IsClosedChunk c.base (limit_of marked.bytes) bytes marks
  pub long : length bytes ≡ c.length
  pub marks_are : (at : ℕ) → IsInChunk c at → mark_at marked.marks at ≡ get_or marks (at - c.base) Unmarked

-- the text with other bytes in the chunk's span
abbrev renewed : MarkedText → Chunk → List ℕ → List ℕ
renewed marked c bytes = with_span marked.bytes (c.base - 65536) bytes

-- the text with other bytes in the chunk's span is as long as it was
renewed_long : (marked : MarkedText) (c : Chunk) (bytes : List ℕ) (marks : List Mark) → Renews marked c bytes marks
    → length (renewed marked c bytes) ≡ length marked.bytes
renewed_long marked c bytes marks r = length-with_span marked.bytes (c.base - 65536) bytes (omega (arith, r.lies.low, r.lies.high, r.long))

-- what is marked for the chunk alone is marked
alone_marked : (marked : MarkedText) (c : Chunk) (bytes : List ℕ) (marks : List Mark) → Renews marked c bytes marks → (now : State)
    → IsMarked (alone marked c.base bytes marks).marks now → IsMarked marked.marks now
alone_marked marked c bytes marks r now m =
    let inside : InRegion marked.bytes now.place = (
      m.0,
      omega (
        arith,
        marked_within (alone marked c.base bytes marks).marks now m,
        alone_marks_long marked c.base bytes marks r.chunk,
      ),
    ) in
    let at_start : mark_at (alone marked c.base bytes marks).marks now.place ≡ unused_mark now.place → IsMarked marked.marks now = λ is. (
      m.0,
      subst (λ (mark : Mark). Admits mark now.masked)
          (sym (r.whole.closed.starts now.place inside
          (unused_is_start now.place now.masked (subst (λ (mark : Mark). Admits mark now.masked) is m.1)))) tt,
    ) in
    elim (place_of c.base c.length now.place) [
      | Before l ↦ at_start (alone_before marked c.base bytes marks now.place r.chunk inside l)
      | Within low high ↦ (
        m.0,
        subst (λ (mark : Mark). Admits mark now.masked)
            (alone_within marked c.base bytes marks now.place r.chunk low (omega (arith, high, r.long))
            ∙ sym (r.marks_are now.place (low, high))) m.1,
      )
      | Behind p ↦ at_start (alone_behind marked c.base bytes marks now.place r.chunk inside (omega (arith, p, r.long)))
    ]

-- the text with other bytes in the chunk's span is closed
pub renewed_closed : (marked : MarkedText) (c : Chunk) (bytes : List ℕ) (marks : List Mark) → Renews marked c bytes marks
    → IsClosed (renewed marked c bytes) marked.marks
renewed_closed marked c bytes marks r =
    let long = renewed_long marked c bytes marks r in
    let fits : c.base + length bytes ≤ 65536 + length marked.bytes = omega (arith, r.lies.high, r.long) in
    closed_by_parts (renewed marked c bytes) marked.marks
    (λ at inside start. r.whole.closed.starts at (inside.0, omega (arith, inside.1, long)) start)
    (λ now m.
    elim (place_of c.base c.length now.place) [
      | Before l ↦
          inr (record {
            old = marked.bytes;
            old_marks = marked.marks;
            closed = r.whole.closed;
            as_long = long;
            was_marked = m;
            kept = λ i is within k lt. span_before marked.bytes c.base bytes (now.place + k) 0 r.lies.low fits (omega (arith, m.0))
                (before_span now.place i.len k c.base within lt r.lies.start l);
            more = λ next n. n;
          })
      | Within low high ↦
          inr (record {
            old = (alone marked c.base bytes marks).bytes;
            old_marks = (alone marked c.base bytes marks).marks;
            closed = r.chunk.closed;
            as_long = long ∙ sym (alone_bytes_long marked c.base bytes marks r.chunk);
            was_marked = (
              m.0,
              subst (λ (mark : Mark). Admits mark now.masked) (r.marks_are now.place (low, high)
                  ∙ sym (alone_within marked c.base bytes marks now.place r.chunk low (omega (arith, high, r.long)))) m.1,
            );
            kept = λ i is within k lt.
                let from : c.base ≤ now.place + k = omega arith in
                let to : now.place + k < c.base + length bytes =
                omega (arith, r.long, within_span now.place i.len k c.base c.length within lt r.lies.start r.lies.whole high) in
                span_within marked.bytes c.base bytes (now.place + k) 0 r.lies.low fits from to
                ∙ sym (span_within (unused_text (limit_of marked.bytes)).bytes c.base bytes (now.place + k) 0 r.lies.low
                (alone_fits_bytes marked c.base bytes marks r.chunk) from to);
            more = alone_marked marked c bytes marks r;
          })
      | Behind p ↦
          inr (record {
            old = marked.bytes;
            old_marks = marked.marks;
            closed = r.whole.closed;
            as_long = long;
            was_marked = m;
            kept = λ i is within k lt. span_behind marked.bytes c.base bytes (now.place + k) 0 r.lies.low fits (omega (arith, p, r.long));
            more = λ next n. n;
          })
    ])

-- ---- one instruction exchanged

-- an instruction of the chunk that stands at the address, and the one that comes in its place
pub record Changes (marked : MarkedText) (c : Chunk) (at : ℕ) (before after : List Piece) (o n : Piece) : Type 0 where
  pub whole : IsText marked
  pub holds : HoldsValid marked c
  pub exchange : Exchanges holds.vetted before after o n
  pub here : c.base + place before ≡ at

-- a list with its middle set anew
middle : (xs ys zs ws : List ℕ) → length ys ≡ length ws → xs ++ (ws ++ zs) ≡ with_span (xs ++ (ys ++ zs)) (length xs) ws
middle xs ys zs ws e =
    ap (λ (a : List ℕ). a ++ (ws ++ zs)) (sym (take_seam xs (ys ++ zs)))
    ∙ ap (λ (b : List ℕ). take (length xs) (xs ++ (ys ++ zs)) ++ (ws ++ b))
    (sym (drop_two xs ys zs (length xs + length ws) (ap (λ (k : ℕ). length xs + k) (sym e))))
  where
    drop_two : (xs ys zs : List ℕ) (k : ℕ) → k ≡ length xs + length ys → drop k (xs ++ (ys ++ zs)) ≡ zs
    drop_two xs ys zs k e = ap (λ (m : ℕ). drop m (xs ++ (ys ++ zs))) (e ∙ sym (length-append xs ys))
        ∙ (ap (λ (a : List ℕ). drop (length (xs ++ ys)) a) (sym (append_assoc xs ys zs)) ∙ drop-append_seam (xs ++ ys) zs)

-- the new code is the old one with the new instruction in it
new_code_is : (marked : MarkedText) (c : Chunk) (at : ℕ) (before after : List Piece) (o n : Piece) (x : Changes marked c at before after o
    n) → code_of (before ++ n ∷ after) ≡ with_span x.holds.vetted.code (place before) n.bytes
new_code_is marked c at before after o n x =
    let old : x.holds.vetted.code ≡ code_of before ++ (o.bytes ++ code_of after) = x.exchange.valid.parts
    ∙ (ap (λ (z : List Piece). code_of z) x.exchange.parts ∙ code_of-append before (o ∷ after)) in
    code_of-append before (n ∷ after) ∙ (middle (code_of before) o.bytes (code_of after) n.bytes x.exchange.as_long
    ∙ ap (λ (z : List ℕ). with_span z (place before) n.bytes) (sym old))

-- the instruction lies in the chunk
place_in : (marked : MarkedText) (c : Chunk) (at : ℕ) (before after : List Piece) (o n : Piece) (x : Changes marked c at before after o n)
    → place before + length n.bytes ≤ length x.holds.vetted.code
place_in marked c at before after o n x =
    omega (
      arith,
      ap (λ (z : List ℕ). length z) x.exchange.valid.parts,
      ap place x.exchange.parts,
      place-append before (o ∷ after),
      length-append o.bytes (code_of after),
      x.exchange.as_long,
    )

-- the text with the chunk set anew is the text with the instruction set anew
pub same_text : (marked : MarkedText) (c : Chunk) (at : ℕ) (before after : List Piece) (o n : Piece)
    → Changes marked c at before after o n → renewed marked c (code_of (before ++ n ∷ after)) ≡ with_span marked.bytes (at - 65536) n.bytes
same_text marked c at before after o n x =
    let l = lies marked c x.whole x.holds in
    let bytes : List ℕ = code_of (before ++ n ∷ after) in
    let long : length (code_of (before ++ n ∷ after)) ≡ c.length = code_long x.holds.vetted before after o n x.exchange ∙ x.holds.long in
    let ends = place_in marked c at before after o n x in
    let low : 65536 ≤ at = omega (arith, l.low, x.here) in
    let fits : c.base + length (code_of (before ++ n ∷ after)) ≤ 65536 + length marked.bytes = omega (arith, l.high, long) in
    let fits2 : at + length n.bytes ≤ 65536 + length marked.bytes = omega (arith, l.high, x.here, ends, x.holds.long) in
    ext_get_or 0 (renewed marked c (code_of (before ++ n ∷ after))) (with_span marked.bytes (at - 65536) n.bytes)
    (length-with_span marked.bytes (c.base - 65536) (code_of (before ++ n ∷ after)) (omega (arith, l.low, fits))
    ∙ sym (length-with_span marked.bytes (at - 65536) n.bytes (omega (arith, low, fits2))))
    (λ j lt.
    let e : 65536 + j - 65536 ≡ j = omega arith in
    subst (λ (k : ℕ). get_or (renewed marked c (code_of (before ++ n ∷ after))) k 0 ≡ get_or
    (with_span marked.bytes (at - 65536) n.bytes) k 0) e
    (elim (place_of c.base c.length (65536 + j)) [
      | Before b ↦ span_before marked.bytes c.base (code_of (before ++ n ∷ after)) (65536 + j) 0 l.low fits (omega arith) b
          ∙ sym (span_before marked.bytes at n.bytes (65536 + j) 0 low fits2 (omega arith) (omega (arith, b, x.here)))
      | Behind b ↦ span_behind marked.bytes c.base (code_of (before ++ n ∷ after)) (65536 + j) 0 l.low fits (omega (arith, b, long))
          ∙ sym (span_behind marked.bytes at n.bytes (65536 + j) 0 low fits2 (omega (arith, b, x.here, ends, x.holds.long)))
      | Within a b ↦
          let there = span_within marked.bytes c.base (code_of (before ++ n ∷ after)) (65536 + j) 0 l.low fits a (omega (arith, b, long))
          ∙ ap (λ (z : List ℕ). get_or z (65536 + j - c.base) 0) (new_code_is marked c at before after o n x) in
          let old = x.holds.bytes_are (65536 + j) (a, b) in
          elim (place_of at (length n.bytes) (65536 + j)) [
            | Before f ↦ there ∙ (get_or-with_span_below x.holds.vetted.code (place before) n.bytes (65536 + j - c.base) 0
                (omega (arith, ends)) (omega (arith, f, a, x.here))
                ∙ (sym old ∙ sym (span_before marked.bytes at n.bytes (65536 + j) 0 low fits2 (omega arith) f)))
            | Within f h ↦
                let d : 65536 + j - c.base - place before ≡ 65536 + j - at = omega (arith, f, x.here) in
                there ∙ (get_or-with_span_in x.holds.vetted.code (place before) n.bytes (65536 + j - c.base) 0 ends
                (omega (arith, f, x.here)) (omega (arith, h, a, x.here))
                ∙ (ap (λ (k : ℕ). get_or n.bytes k 0) d ∙ sym (span_within marked.bytes at n.bytes (65536 + j) 0 low fits2 f h)))
            | Behind f ↦ there ∙ (get_or-with_span_above x.holds.vetted.code (place before) n.bytes (65536 + j - c.base) 0 ends
                (omega (arith, f, x.here)) ∙ (sym old ∙ sym (span_behind marked.bytes at n.bytes (65536 + j) 0 low fits2 f)))
          ]
    ]))

-- the text with the instruction set anew
abbrev pub changed : MarkedText → ℕ → List ℕ → MarkedText
changed marked at bytes = record { bytes = with_span marked.bytes (at - 65536) bytes; marks = marked.marks }

-- one instruction exchanged renews the chunk
pub renews_of : (marked : MarkedText) (c : Chunk) (at : ℕ) (before after : List Piece) (o n : Piece) (x : Changes marked c at before after
    o n) → Renews marked c (code_of (before ++ n ∷ after)) x.holds.vetted.marks
renews_of marked c at before after o n x =
    let v = x.holds.vetted in
    record {
      whole = x.whole;
      lies = lies marked c x.whole x.holds;
      chunk =
          subst (λ (b : ℕ). IsClosedChunk b (limit_of marked.bytes) (code_of (before ++ n ∷ after)) x.holds.vetted.marks) x.holds.base_is
          (subst (λ (l : ℕ). IsClosedChunk x.holds.vetted.base l (code_of (before ++ n ∷ after)) x.holds.vetted.marks) x.holds.limit_is
          (valid_chunk_is_closed (exchanged x.holds.vetted before after n) (exchanged_valid x.holds.vetted before after o n x.exchange)));
      long = code_long x.holds.vetted before after o n x.exchange ∙ x.holds.long;
      marks_are = x.holds.marks_are;
    }

-- the text with the new instruction is closed
pub changed_closed : (marked : MarkedText) (c : Chunk) (at : ℕ) (before after : List Piece) (o n : Piece)
    → Changes marked c at before after o n → IsClosed (with_span marked.bytes (at - 65536) n.bytes) marked.marks
changed_closed marked c at before after o n x =
    subst (λ (z : List ℕ). IsClosed z marked.marks) (same_text marked c at before after o n x)
    (renewed_closed marked c (code_of (before ++ n ∷ after)) x.holds.vetted.marks (renews_of marked c at before after o n x))

-- the text with the new instruction is as long as it was
pub changed_long : (marked : MarkedText) (c : Chunk) (at : ℕ) (before after : List Piece) (o n : Piece)
    → Changes marked c at before after o n → length (with_span marked.bytes (at - 65536) n.bytes) ≡ length marked.bytes
changed_long marked c at before after o n x = ap (λ (z : List ℕ). length z) (sym (same_text marked c at before after o n x))
    ∙ renewed_long marked c (code_of (before ++ n ∷ after)) x.holds.vetted.marks (renews_of marked c at before after o n x)

-- the text with the new instruction is still a text (`IsText`)
pub changed_text : (marked : MarkedText) (c : Chunk) (at : ℕ) (before after : List Piece) (o n : Piece)
    → Changes marked c at before after o n → IsText (changed marked at n.bytes)
changed_text marked c at before after o n x =
    let long = changed_long marked c at before after o n x in
    record {
      lawful = subst IsLawfulLimit (ap (λ (k : ℕ). 65536 + k) (sym long)) x.whole.lawful;
      as_long = x.whole.as_long ∙ sym long;
      closed = changed_closed marked c at before after o n x;
    }

-- the text with the new instruction has the bytes of the chunk with it
pub changed_bytes : (marked : MarkedText) (c : Chunk) (at : ℕ) (before after : List Piece) (o n : Piece)
    → Changes marked c at before after o n → (k : ℕ) → IsInChunk c k
    → byte_at (changed marked at n.bytes).bytes k ≡ get_or (code_of (before ++ n ∷ after)) (k - c.base) 0
changed_bytes marked c at before after o n x k inside =
    let r = renews_of marked c at before after o n x in
    ap (λ (z : List ℕ). byte_at z k) (sym (same_text marked c at before after o n x))
    ∙ span_within marked.bytes c.base (code_of (before ++ n ∷ after)) k 0 r.lies.low (omega (arith, r.lies.high, r.long)) inside.0
    (omega (arith, inside.1, r.long))

-- the chunk is held as before, with the new instruction in it
abbrev pub changed_holds : (marked : MarkedText) (c : Chunk) (at : ℕ) (before after : List Piece) (o n : Piece)
    → Changes marked c at before after o n → HoldsValid (changed marked at n.bytes) c
changed_holds marked c at before after o n x =
    let r = renews_of marked c at before after o n x in
    record {
      vetted = exchanged x.holds.vetted before after n;
      valid = exchanged_valid x.holds.vetted before after o n x.exchange;
      base_is = x.holds.base_is;
      limit_is = x.holds.limit_is ∙ ap (λ (k : ℕ). 65536 + k) (sym (changed_long marked c at before after o n x));
      long = r.long;
      bytes_are = changed_bytes marked c at before after o n x;
      marks_are = x.holds.marks_are;
    }

-- a piece of the changed chunk begins at each marked place of it
abbrev NewBegins : List Piece → ℕ → Type 0
NewBegins pieces k = (b : List Piece) × (p : Piece) × (a : List Piece) × (pieces ≡ b ++ p ∷ a) × (place b ≡ k)

-- a mark that admits something is a mark
is_marked : (mark : Mark) (masked : Option ℕ) → Admits mark masked → mark ≡ Unmarked → ⊥
is_marked mark masked m e = subst (λ (x : Mark). Admits x masked) e m

-- where a mark of the chunk stands a piece begins
begins_there : (marked : MarkedText) (c : Chunk) (at : ℕ) (before after : List Piece) (o n : Piece) (x : Changes marked c at before after o
    n) (now : State) → IsMarked marked.marks now → c.base ≤ now.place → now.place < c.base + c.length
    → NewBegins (before ++ n ∷ after) (now.place - c.base)
begins_there marked c at before after o n x now m low high =
    let v : vet.IsValid (exchanged x.holds.vetted before after n) = exchanged_valid x.holds.vetted before after o n x.exchange in
    let marks_long : length (marks_of v.pieces) ≡ c.length = length-marks_of v.pieces v.sound.spelled
    ∙ (ap (λ (z : List ℕ). length z) (sym v.parts) ∙ (code_long x.holds.vetted before after o n x.exchange ∙ x.holds.long)) in
    let there : mark_at marked.marks now.place ≡ get_or (marks_of v.pieces) (now.place - c.base) Unmarked =
    x.holds.marks_are now.place (low, high) ∙ ap (λ (z : List Mark). get_or z (now.place - c.base) Unmarked) v.marks_are in
    let found = places.marked v.pieces v.sound.spelled (now.place - c.base) (mark_at marked.marks now.place)
    (omega (arith, marks_long, low, high)) (sym there) (is_marked (mark_at marked.marks now.place) now.masked m.1) in
    (found.before, found.piece, found.after, found.parts, found.here)

-- no instruction at another marked place has a byte of the new instruction's span
changed_apart : (marked : MarkedText) (c : Chunk) (at : ℕ) (before after : List Piece) (o n : Piece) (x : Changes marked c at before after
    o n) (now : State) (i : Instr) → IsMarked marked.marks now → now.place ≢ at
    → instruction_at (with_span marked.bytes (at - 65536) n.bytes) now.place ≡ Some i → (now.place + i.len ≤ at)
    ⊎ (at + length n.bytes ≤ now.place)
changed_apart marked c at before after o n x now i m other is =
    let l = lies marked c x.whole x.holds in
    let ends = place_in marked c at before after o n x in
    elim (place_of c.base c.length now.place) [
      | Before b ↦
          let closed = changed_closed marked c at before after o n x in
          let e = executes (with_span marked.bytes (at - 65536) n.bytes) now m.0 (closed.safe now m) in
          let same : e.i ≡ i = some_same (instruction_at (with_span marked.bytes (at - 65536) n.bytes) now.place) e.i i e.is is in
          inl (omega (arith, b, e.permitted.0, ap (λ (j : Instr). j.len) same, l.start, x.here))
      | Within low high ↦
          let f = begins_there marked c at before after o n x now m low high in
          let begins : Begins (changed marked at n.bytes) c now.place =
          record {
            holds = changed_holds marked c at before after o n x;
            before = f.0;
            rest = f.1 ∷ f.2;
            parts = f.3;
            here =
                omega (arith, f.4, low);
          } in
          let s = stands_with (changed marked at n.bytes) c now.place (changed_text marked c at before after o n x) begins f.1 f.2 refl in
          let piece : s.piece ≡ f.1 = first_of_same s.piece f.1 s.rest f.2 (sym s.is) in
          let same : s.piece.instr ≡ i =
          some_same (instruction_at (with_span marked.bytes (at - 65536) n.bytes) now.place) s.piece.instr i s.instr is in
          let len : i.len ≡ length f.1.bytes = ap (λ (j : Instr). j.len) (sym same) ∙ (s.len ∙ ap (λ (p : Piece). length p.bytes) piece) in
          elim (where_is before after f.0 f.2 n f.1 f.3) [
            | Here a g k ↦ absurd (other (omega (arith, ap place a, f.4, low, x.here)))
            | Earlier k a g ↦ inl (omega (
              arith,
              ap place a,
              place-append f.0 (f.1 ∷ k),
              length-append f.1.bytes (code_of k),
              f.4,
              low,
              x.here,
              len,
            ))
            | Later k a g ↦ inr (omega (
              arith,
              ap place a,
              place-append before (n ∷ k),
              length-append n.bytes (code_of k),
              f.4,
              low,
              x.here,
            ))
          ]
      | Behind p ↦ inr (omega (arith, p, x.here, ends, x.holds.long))
    ]
  where
    first_of_same : (p q : Piece) (xs ys : List Piece) → p ∷ xs ≡ q ∷ ys → p ≡ q
    first_of_same p q xs ys e = cc

-- the instruction may be replaced
pub changes_replace : (marked : MarkedText) (c : Chunk) (at : ℕ) (before after : List Piece) (o n : Piece)
    → Changes marked c at before after o n → IsReplacing marked at n.bytes
changes_replace marked c at before after o n x =
    let l = lies marked c x.whole x.holds in
    let ends = place_in marked c at before after o n x in
    record {
      some = (let s = spells_some n.bytes n.instr x.exchange.spells in omega (arith, s.0, s.1));
      low = omega (arith, l.low, x.here);
      high = omega (arith, l.high, x.here, ends, x.holds.long);
      closed = changed_closed marked c at before after o n x;
      apart = changed_apart marked c at before after o n x;
    }

-- Which instruction of a chunk stands at a place of the text.
use Rattle.std.proofs.Common.{◌≡◌, ℕ, ◌+◌, ◌-◌, ◌%◌, ◌<◌, ◌≤◌, Bool, true, false, cond, List, [], ◌∷◌, ◌++◌, length, take}
use Rattle.std.proofs.Common.{drop, get_or, Option, Some, refl, sym, subst, ◌∙◌, ap, arith, append_assoc, append-nil}
use Rattle.std.specs.Prelude.{IsSomeAnd, ◌↔◌}
use Rattle.std.proofs.lemmas.List.{length-append, length-take, length-drop, get_or-take, get_or-drop, get_or-append-add, get_or_append_left, ext_get_or}
use Rattle.nc_decode.specs.declared.instruction.Instr.{Instr}
use Rattle.nc_decode.specs.declared.instruction.Mark.{Mark}
use Rattle.nc_decode.specs.declared.instruction.Mark.TheVariants.{Unmarked, Plain, After}
use Rattle.nc_decode.specs.Bundles.{IsInOneBundle}
use Rattle.nc_decode.specs.Transfers.{is_indirect}
use Rattle.nc_decode.specs.Front.{first_instruction}
use Rattle.nc_decode.proofs.Offered.{exact, depends_on_its_bytes, spells_some}
use Rattle.nc_vet.specs.Chunk.{Piece, code_of, place, mark_of}
use Rattle.nc_vet.proofs.Offered.{code_of-append, place-append, place-push}
use Rattle.nc_vet.proofs.Offered as places
use Rattle.nc_text.specs.Places.{limit_of, byte_at, instruction_at}
use Rattle.nc_text.specs.Marks.{mark_at}
use Rattle.nc_text.specs.MarkedText.{MarkedText, IsText}
use Rattle.nc_list.specs.declared.chunk.Chunk.{Chunk}
use Rattle.nc_region.specs.Region.{HoldsValid}
use Rattle.nc_region.specs.Patch.{GoesOnIndirectly}
use Rattle.nc_region.specs.machinery.PatchSteps.{Begins, RunsAlong, is_after}

-- the chunk lies in the region, below the guard
pub record Lies (marked : MarkedText) (c : Chunk) : Type 0 where
  pub low : 65536 ≤ c.base
  pub high : c.base + c.length + 32 ≤ limit_of marked.bytes
  pub start : c.base % 32 ≡ 0
  pub whole : c.length % 32 ≡ 0
  pub small : limit_of marked.bytes < 0x80000000

-- a valid chunk that a text holds lies in it
pub lies : (marked : MarkedText) (c : Chunk) → IsText marked → HoldsValid marked c → Lies marked c
lies marked c t h =
    record {
      low = omega (arith, h.base_is, h.valid.base_is.1);
      high = omega (arith, h.base_is, h.long, h.limit_is, h.valid.range.1);
      start = ap (λ (n : ℕ). n % 32) (sym h.base_is) ∙ h.valid.base_is.0;
      whole = ap (λ (n : ℕ). n % 32) (sym h.long) ∙ h.valid.length_is.1;
      small = omega (arith, t.lawful.2);
    }

-- the place behind all instructions is the end of the chunk
pub all_long : (marked : MarkedText) (c : Chunk) (h : HoldsValid marked c) → place h.valid.pieces ≡ c.length
all_long marked c h = ap (λ (z : List ℕ). length z) (sym h.valid.parts) ∙ h.long

-- what stands where an instruction of the chunk begins
pub record Standing (marked : MarkedText) (c : Chunk) (at : ℕ) (b : Begins marked c at) : Type 0 where
  pub piece : Piece
  pub rest : List Piece
  pub is : b.rest ≡ piece ∷ rest
  pub instr : instruction_at marked.bytes at ≡ Some piece.instr
  pub bytes : (k : ℕ) → k < piece.instr.len → byte_at marked.bytes (at + k) ≡ get_or piece.bytes k 0
  pub inside : IsInOneBundle at piece.instr.len
  pub len : piece.instr.len ≡ length piece.bytes
  pub some : 0 < piece.instr.len
  pub mark : mark_at marked.marks at ≡ mark_of piece.instr
  pub parts : b.holds.valid.pieces ≡ (b.before ++ piece ∷ []) ++ rest
  pub behind : c.base + place (b.before ++ piece ∷ []) ≡ at + piece.instr.len
  pub ends : at + piece.instr.len ≤ c.base + c.length

-- the bytes of an instruction in the chunk's code
code_at : (before rest : List Piece) (p : Piece) (k : ℕ)
    → get_or (code_of (before ++ p ∷ rest)) (place before + k) 0 ≡ get_or (p.bytes ++ code_of rest) k 0
code_at before rest p k = ap (λ (z : List ℕ). get_or z (place before + k) 0) (code_of-append before (p ∷ rest))
    ∙ get_or-append-add (code_of before) (p.bytes ++ code_of rest) k 0

-- the instruction at a place, by the piece that begins there
pub stands_with : (marked : MarkedText) (c : Chunk) (at : ℕ) → IsText marked → (b : Begins marked c at) → (p : Piece) (rest : List Piece)
    → b.rest ≡ p ∷ rest → Standing marked c at b
stands_with marked c at t b p rest is =
    let h = b.holds in
    let l = lies marked c t h in
    let parts : b.holds.valid.pieces ≡ b.before ++ p ∷ rest = b.parts ∙ ap (λ (z : List Piece). b.before ++ z) is in
    let spells = h.valid.sound.spelled b.before rest p parts in
    let n = spells_some p.bytes p.instr spells in
    let long : place b.before + (length p.bytes + place rest) ≡ c.length =
    ap (λ (x : ℕ). place b.before + x) (sym (length-append p.bytes (code_of rest)))
    ∙ (sym (place-append b.before (p ∷ rest)) ∙ (ap place (sym parts) ∙ all_long marked c h)) in
    let fits : at + p.instr.len ≤ c.base + c.length = omega (arith, b.here, long, n.0) in
    let found : first_instruction (p.bytes ++ code_of rest) ≡ Some p.instr =
    (exact (p.bytes ++ code_of rest) p.instr).1 (record { front = p.bytes; rest = code_of rest; parts = refl; spells = spells }) in
    let code_is : h.vetted.code ≡ code_of (b.before ++ p ∷ rest) = h.valid.parts ∙ ap (λ (z : List Piece). code_of z) parts in
    let bytes : (k : ℕ) → k < p.instr.len → byte_at marked.bytes (at + k) ≡ get_or (p.bytes ++ code_of rest) k 0 = λ k lt.
    (let e : at + k - c.base ≡ place b.before + k = omega (arith, b.here) in
    h.bytes_are (at + k) (omega (arith, b.here), omega (arith, fits, lt))
    ∙ (ap (λ (m : ℕ). get_or h.vetted.code m 0) e
    ∙ (ap (λ (z : List ℕ). get_or z (place b.before + k) 0) code_is ∙ code_at b.before rest p k))) in
    record {
      piece = p;
      rest = rest;
      is = is;
      instr = depends_on_its_bytes (p.bytes ++ code_of rest) (drop (at - 65536) marked.bytes) p.instr found
          (ext_get_or 0 (take p.instr.len (drop (at - 65536) marked.bytes)) (take p.instr.len (p.bytes ++ code_of rest))
          (omega (
            arith,
            fits,
            l.high,
            l.low,
            b.here,
            n.0,
            length-take p.instr.len (drop (at - 65536) marked.bytes),
            length-drop (at - 65536) marked.bytes,
            length-take p.instr.len (p.bytes ++ code_of rest),
            length-append p.bytes (code_of rest),
          ))
          (λ k lt.
          let small : k < p.instr.len = omega (arith, lt, length-take p.instr.len (drop (at - 65536) marked.bytes)) in
          let moved : at + k - 65536 ≡ at - 65536 + k = omega (arith, b.here, l.low) in
          get_or-take p.instr.len (drop (at - 65536) marked.bytes) k 0 small
          ∙ (get_or-drop (at - 65536) marked.bytes k 0
          ∙ (ap (λ (m : ℕ). get_or marked.bytes m 0) (sym moved)
          ∙ (bytes k small ∙ sym (get_or-take p.instr.len (p.bytes ++ code_of rest) k 0 small))))));
      bytes = λ k lt. bytes k lt ∙ get_or_append_left p.bytes (code_of rest) 0 k (omega (arith, lt, n.0));
      inside = omega (arith, h.valid.sound.inside b.before rest p parts, b.here, l.start, n.0);
      len = n.0;
      some = n.1;
      mark =
          let e : at - c.base ≡ place b.before = omega (arith, b.here) in
          h.marks_are at (omega (arith, b.here), omega (arith, fits, n.1))
          ∙ (ap (λ (m : ℕ). get_or h.vetted.marks m Unmarked) e
          ∙ (ap (λ (z : List Mark). get_or z (place b.before) Unmarked) h.valid.marks_are
          ∙ places.mark_at h.valid.pieces b.before rest p Unmarked h.valid.sound.spelled parts));
      parts = parts ∙ sym (append_assoc b.before (p ∷ []) rest);
      behind = omega (arith, place-push b.before p, b.here, n.0);
      ends = fits;
    }

-- the instruction at a place of the chunk
pub standing : (marked : MarkedText) (c : Chunk) (at : ℕ) → IsText marked → (b : Begins marked c at) → at < c.base + c.length
    → Standing marked c at b
standing marked c at t b lt = go b.rest refl
  where
    go : (rest : List Piece) → b.rest ≡ rest → Standing marked c at b
    go [] e = absurd (omega (
      arith,
      lt,
      b.here,
      all_long marked c b.holds,
      ap place (b.parts ∙ (ap (λ (z : List Piece). b.before ++ z) e ∙ append-nil b.before)),
    ))
    go (p ∷ rest) e = stands_with marked c at t b p rest e

-- where the instruction behind the one that stands at a place begins
abbrev pub next_begins : (marked : MarkedText) (c : Chunk) (at : ℕ) (b : Begins marked c at) → (s : Standing marked c at b) → (len : ℕ)
    → len ≡ s.piece.instr.len → Begins marked c (at + len)
next_begins marked c at b s len e = record {
  holds = b.holds;
  before = b.before ++ s.piece ∷ [];
  rest = s.rest;
  parts = s.parts;
  here =
      omega (arith, s.behind, e);
}

-- where a chunk's instruction begins, some instruction stands, wholly inside its bundle
pub stands_some : (marked : MarkedText) (c : Chunk) (at : ℕ) (b : Begins marked c at) (s : Standing marked c at b)
    → IsSomeAnd (instruction_at marked.bytes at) (λ i. IsInOneBundle at i.len)
stands_some marked c at b s = subst (λ (o : Option Instr). IsSomeAnd o (λ i. IsInOneBundle at i.len)) (sym s.instr) s.inside

-- lists run along each other if their first members and the others do
pub runs_from : (rest news : List Piece) (p n : Piece) (others more : List Piece) → rest ≡ p ∷ others → news ≡ n ∷ more
    → length p.bytes ≡ length n.bytes → RunsAlong others more → RunsAlong rest news
runs_from rest news p n others more e f len runs = rw (e, f) (len, runs)

-- lists run along each other, after their first members
pub runs_to : (rest news : List Piece) (p n : Piece) (others more : List Piece) → rest ≡ p ∷ others → news ≡ n ∷ more
    → RunsAlong rest news → (length p.bytes ≡ length n.bytes) × RunsAlong others more
runs_to rest news p n others more e f runs =
    subst (λ (z : List Piece). RunsAlong (p ∷ others) z) f (subst (λ (z : List Piece). RunsAlong z news) e runs)

-- the empty list of instructions runs along any list
pub runs_none : (rest news : List Piece) → news ≡ [] → RunsAlong rest news
runs_none rest news e = rw e tt

-- the mark of an instruction tells whether it is an indirect transfer
after_cond : (b : Bool) (r : ℕ) → is_after (cond b (After r) Plain) ≡ b
after_cond true r = refl
after_cond false r = refl

-- the mark of an indirect transfer
pub after_is : (i : Instr) → is_after (mark_of i) ≡ is_indirect i.flow
after_is i = after_cond (is_indirect i.flow) i.reg

-- the mark where the chunk goes on tells whether an indirect transfer stands there
pub goes_on : (marked : MarkedText) (c : Chunk) (at : ℕ) → IsText marked → (b : Begins marked c at)
    → (is_after (mark_at marked.marks at) ≡ true) ↔ GoesOnIndirectly b.rest
goes_on marked c at t b = go b.rest refl
  where
    go : (rest : List Piece) → b.rest ≡ rest → (is_after (mark_at marked.marks at) ≡ true) ↔ GoesOnIndirectly b.rest
    go [] e =
        let l = lies marked c t b.holds in
        let end : at ≡ c.base + c.length =
        omega (
          arith,
          b.here,
          all_long marked c b.holds,
          ap place (b.parts ∙ (ap (λ (z : List Piece). b.before ++ z) e ∙ append-nil b.before)),
        ) in
        let plain : mark_at marked.marks at ≡ Plain =
        t.closed.starts at (omega (arith, end, l.low), omega (arith, end, l.high)) (omega (arith, end, l.start, l.whole)) in
        let not_after : is_after (mark_at marked.marks at) ≡ false = ap is_after plain in (
          λ x. absurd (let differ : true ≡ false = sym x ∙ not_after in cc),
          λ x. absurd (subst GoesOnIndirectly e x),
        )
    go (p ∷ rest) e =
        let s = stands_with marked c at t b p rest e in
        let same : is_after (mark_at marked.marks at) ≡ is_indirect s.piece.instr.flow = ap is_after s.mark ∙ after_is s.piece.instr in
        (λ x. subst GoesOnIndirectly (sym s.is) (sym same ∙ x), λ n. same ∙ subst GoesOnIndirectly s.is n)

-- An instruction of a chunk ends at the next marked place of its bundle, or else at the end of the bundle.
use Rattle.std.proofs.Common.{◌≡◌, ◌≢◌, ℕ, zero, suc, ◌+◌, ◌-◌, ◌%◌, ◌<◌, ◌≤◌, List, ◌∷◌, ◌++◌, length, get_or, replicate}
use Rattle.std.proofs.Common.{refl, sym, ◌∙◌, ap, arith, append_assoc, ⊎_elim}
use Rattle.std.proofs.lemmas.Bool.{cases_lt}
use Rattle.std.proofs.lemmas.List.{get_or-append-add, get_or_append_left, get_or-replicate, length-replicate}
use Rattle.nc_decode.specs.declared.instruction.Mark.{Mark}
use Rattle.nc_decode.specs.declared.instruction.Mark.TheVariants.{Unmarked, Plain, After}
use Rattle.nc_decode.specs.Transfers.{is_indirect}
use Rattle.nc_vet.specs.Chunk.{Piece, place, AreSpelled, marks_of}
use Rattle.nc_vet.proofs.Offered.{marks_of-append, length-marks_of}
use Rattle.nc_decode.specs.Bits.{mark_bit}
use Rattle.nc_text.specs.Marks.{mark_at}
use Rattle.nc_text.specs.MarkedText.{MarkedText, IsText}
use Rattle.nc_list.specs.declared.chunk.Chunk.{Chunk}
use Rattle.nc_region.specs.machinery.PatchSteps.{Begins}
use Rattle.nc_region.proofs.patching.Standing.{Standing, lies, standing, next_begins}
use Rattle.nc_region.proofs.patching.Runs.{some_mark}

-- a mark whose bit isn't set is none
pub no_mark : (m : Mark) → mark_bit m ≡ 0 → m ≡ Unmarked
no_mark Unmarked e = refl
no_mark Plain e = absurd cc
no_mark (After r) e = absurd cc

-- a mark whose bit is set is one
pub is_mark : (m : Mark) → mark_bit m ≡ 1 → m ≢ Unmarked
is_mark Unmarked e f = cc
is_mark Plain e f = cc
is_mark (After r) e f = cc

-- behind the first byte of an instruction no place of it is marked
inside_unmarked : (pieces before after : List Piece) (p : Piece) (k : ℕ) → AreSpelled pieces → pieces ≡ before ++ p ∷ after
    → 0 < k → k < p.instr.len → get_or (marks_of pieces) (place before + k) Unmarked ≡ Unmarked
inside_unmarked pieces before after p k s e some lt =
    let one : (length (marks_of before)) ≡ place before = length-marks_of before
    (λ b a q f. s b (a ++ p ∷ after) q (e ∙ (ap (λ (z : List Piece). z ++ p ∷ after) f ∙ append_assoc b (q ∷ a) (p ∷ after)))) in
    ap (λ (z : List Piece). get_or (marks_of z) (place before + k) Unmarked) e
    ∙ (ap (λ (z : List Mark). get_or z (place before + k) Unmarked) (marks_of-append before (p ∷ after))
    ∙ (ap (λ (n : ℕ). get_or (marks_of before ++ marks_of (p ∷ after)) (n + k) Unmarked) (sym one)
    ∙ (get_or-append-add (marks_of before) (marks_of (p ∷ after)) k Unmarked ∙ behind_first k some lt)))
  where
    behind_first : (k : ℕ) → 0 < k → k < p.instr.len → get_or (marks_of (p ∷ after)) k Unmarked ≡ Unmarked
    behind_first zero some lt = absurd (omega arith)
    behind_first (suc k) some lt =
        get_or_append_left (replicate (p.instr.len - 1) Unmarked) (marks_of after) Unmarked k
        (omega (arith, length-replicate (p.instr.len - 1) Unmarked))
        ∙ get_or-replicate (p.instr.len - 1) k Unmarked Unmarked (omega arith)

-- the next marked place of a bundle, or its end, is this many places on
pub record NextMark (marked : MarkedText) (at steps : ℕ) : Type 0 where
  pub some : 0 < steps
  pub inside : at % 32 + steps ≤ 32
  pub between : (k : ℕ) → 0 < k → k < steps → mark_at marked.marks (at + k) ≡ Unmarked
  pub next : at % 32 + steps < 32 → mark_at marked.marks (at + steps) ≢ Unmarked

-- an instruction of a chunk ends at the next mark
pub ends_at_next : (marked : MarkedText) (c : Chunk) (at : ℕ) (t : IsText marked) (b : Begins marked c at) (s : Standing marked c at b)
    (steps : ℕ) → NextMark marked at steps → steps ≡ s.piece.instr.len
ends_at_next marked c at t b s steps n =
    ⊎_elim
    (λ (short : steps < s.piece.instr.len). absurd (n.next (omega (arith, short, s.inside)) (inner steps n.some short)))
    (λ (long : s.piece.instr.len ≤ steps).
    ⊎_elim
    (λ (past : s.piece.instr.len < steps). absurd (outer past))
    (λ (to : steps ≤ s.piece.instr.len). omega (arith, long, to))
    (cases_lt s.piece.instr.len steps))
    (cases_lt steps s.piece.instr.len)
  where
    inner : (k : ℕ) → 0 < k → k < s.piece.instr.len → mark_at marked.marks (at + k) ≡ Unmarked
    inner k some lt =
        let e : at + k - c.base ≡ place b.before + k = omega (arith, b.here) in
        b.holds.marks_are (at + k) (omega (arith, b.here), omega (arith, s.ends, lt))
        ∙ (ap (λ (m : ℕ). get_or b.holds.vetted.marks m Unmarked) e
        ∙ (ap (λ (z : List Mark). get_or z (place b.before + k) Unmarked) b.holds.valid.marks_are
        ∙ inside_unmarked b.holds.valid.pieces b.before s.rest s.piece k b.holds.valid.sound.spelled
        (b.parts ∙ ap (λ (z : List Piece). b.before ++ z) s.is) some lt))

    outer : s.piece.instr.len < steps → ⊥
    outer past =
        let l = lies marked c t b.holds in
        let none = n.between s.piece.instr.len s.some past in
        ⊎_elim
        (λ (in_chunk : at + s.piece.instr.len < c.base + c.length).
        let next = standing marked c (at + s.piece.instr.len) t (next_begins marked c at b s s.piece.instr.len refl) in_chunk in
        some_mark (is_indirect next.piece.instr.flow) next.piece.instr.reg (sym next.mark ∙ none))
        (λ (over : c.base + c.length ≤ at + s.piece.instr.len). absurd
        (omega (arith, over, s.ends, s.some, past, n.inside, l.start, l.whole)))
        (cases_lt (at + s.piece.instr.len) (c.base + c.length))

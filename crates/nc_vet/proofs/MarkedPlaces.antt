-- What the mark of a place says.
use Rattle.std.proofs.Common.{◌≡◌, ◌≢◌, ℕ, zero, suc, ◌+◌, ◌-◌, ◌%◌, ◌<◌, ◌≤◌, Bool, true, false, List, [], ◌∷◌, ◌++◌, length, cond}
use Rattle.std.proofs.Common.{refl, sym, subst, ◌∙◌, ap, arith, inl, inr, replicate, get_or}
use Rattle.std.proofs.lemmas.Bool.{cases_lt}
use Rattle.std.proofs.lemmas.List.{get_or_at, get_or_append_left, get_or-append-add, get_or-replicate, length-append, length-replicate}
use Rattle.nc_decode.specs.declared.instruction.Mark.{Mark}
use Rattle.nc_decode.specs.declared.instruction.Mark.TheVariants.{Unmarked, Plain, After}
use Rattle.nc_decode.specs.Transfers.{is_indirect}
use Rattle.nc_decode.proofs.Offered.{spells_some}
use Rattle.nc_vet.specs.Chunk.{Piece, code_of, place, AreSpelled, IsEntry, IsTarget, mark_of, marks_of}
use Rattle.nc_vet.proofs.Pieces.{length-marks_of, marks_of-append, spelled_before, spelled_after}

-- an instruction begins at this place, and this is its mark
pub record Begins (pieces : List Piece) (k : ℕ) (m : Mark) : Type 0 where
  pub before : List Piece
  pub piece : Piece
  pub after : List Piece
  pub parts : pieces ≡ before ++ piece ∷ after
  pub here : place before ≡ k
  pub mark : m ≡ mark_of piece.instr

-- what begins in the rest begins in the whole, after the first
after_first : (p : Piece) (ps : List Piece) (k : ℕ) (m : Mark) (j : ℕ) → j ≡ length p.bytes → Begins ps k m → Begins (p ∷ ps) (j + k) m
after_first p ps k m j len b = record {
  before = p ∷ b.before;
  piece = b.piece;
  after = b.after;
  parts = ap (λ (z : List Piece). p ∷ z) b.parts;
  here = omega (arith, length-append p.bytes (code_of b.before), b.here, len);
  mark = b.mark;
}

-- where a mark stands, an instruction begins
pub marked : (pieces : List Piece) → AreSpelled pieces → (k : ℕ) (m : Mark) → k < length (marks_of pieces)
    → get_or (marks_of pieces) k Unmarked ≡ m → m ≢ Unmarked → Begins pieces k m
marked [] s k m lt is some = absurd (omega arith)
marked (p ∷ ps) s zero m lt is some = record { before = []; piece = p; after = ps; parts = refl; here = refl; mark = sym is }
marked (p ∷ ps) s (suc k) m lt is some =
    let one = spells_some p.bytes p.instr (s [] ps p refl) in
    let rep : length (replicate (p.instr.len - 1) Unmarked) ≡ p.instr.len - 1 = length-replicate (p.instr.len - 1) Unmarked in
    elim (cases_lt k (p.instr.len - 1)) [
      | inl inner ↦
          absurd (some (sym is ∙ get_or_append_left (replicate (p.instr.len - 1) Unmarked) (marks_of ps) Unmarked k (omega (arith, rep))
          ∙ get_or-replicate (p.instr.len - 1) k Unmarked Unmarked inner))
      | inr outer ↦
          (let at : k ≡ length (replicate (p.instr.len - 1) Unmarked) + (k - (p.instr.len - 1)) = omega (arith, rep) in
          let is2 : get_or (marks_of ps) (k - (p.instr.len - 1)) Unmarked ≡ m = sym
          (ap (λ (j : ℕ). get_or (replicate (p.instr.len - 1) Unmarked ++ marks_of ps) j Unmarked) at
          ∙ get_or-append-add (replicate (p.instr.len - 1) Unmarked) (marks_of ps) (k - (p.instr.len - 1)) Unmarked) ∙ is in
          let rest = marked ps (spelled_after p ps s) (k - (p.instr.len - 1)) m
          (omega (arith, length-append (replicate (p.instr.len - 1) Unmarked) (marks_of ps), rep)) is2 some in
          let b = after_first p ps (k - (p.instr.len - 1)) m p.instr.len one.0 rest in
          subst (λ (j : ℕ). Begins (p ∷ ps) j m) (omega (arith, one.1)) b)
    ]

-- the mark where an instruction begins
pub mark_at : (pieces before after : List Piece) (p : Piece) (d : Mark) → AreSpelled pieces → pieces ≡ before ++ p ∷ after
    → get_or (marks_of pieces) (place before) d ≡ mark_of p.instr
mark_at pieces before after p d s e =
    ap (λ (z : List Piece). get_or (marks_of z) (place before) d) e
    ∙ ap (λ (z : List Mark). get_or z (place before) d) (marks_of-append before (p ∷ after))
    ∙ get_or_at (marks_of before) (mark_of p.instr) (replicate (p.instr.len - 1) Unmarked ++ marks_of after) d (place before)
    (length-marks_of before (spelled_before pieces before (p ∷ after) s e))

-- a plain mark is that of no indirect transfer
plain_first : (b : Bool) (r : ℕ) → Plain ≡ cond b (After r) Plain → b ≡ false
plain_first true r e = absurd cc
plain_first false r e = refl

-- the mark of an instruction that is no indirect transfer is plain
pub first_plain : (b : Bool) (r : ℕ) → b ≡ false → cond b (After r) Plain ≡ Plain
first_plain true r e = absurd cc
first_plain false r e = refl

-- where a plain mark stands, an instruction begins that is no second half
pub plain_entry : (pieces : List Piece) → AreSpelled pieces → (k : ℕ) → k < length (marks_of pieces)
    → get_or (marks_of pieces) k Unmarked ≡ Plain → IsEntry pieces k
plain_entry pieces s k lt is =
    let b = marked pieces s k Plain lt is (λ e. cc) in
    record {
      before = b.before;
      after = b.after;
      piece = b.piece;
      parts = b.parts;
      here = b.here;
      first = plain_first
          (is_indirect b.piece.instr.flow) b.piece.instr.reg b.mark;
    }

-- where an instruction begins that is no second half, a plain mark stands
pub entry_plain : (pieces : List Piece) → AreSpelled pieces → (k : ℕ) → IsEntry pieces k → get_or (marks_of pieces) k Unmarked ≡ Plain
entry_plain pieces s k e =
    ap (λ (j : ℕ). get_or (marks_of pieces) j Unmarked) (sym e.here)
    ∙ mark_at pieces e.before e.after e.piece Unmarked s e.parts
    ∙ first_plain (is_indirect e.piece.instr.flow) e.piece.instr.reg e.first

-- ---- the target rule, by marks

-- an address in the chunk may be a target where its mark is plain
pub target_inside : (base limit to : ℕ) (pieces : List Piece) (marks : List Mark) → marks ≡ marks_of pieces → AreSpelled pieces
    → base ≤ to → to - base < length marks → get_or marks (to - base) Unmarked ≡ Plain → IsTarget base limit pieces to
target_inside base limit to pieces marks is s low lt plain =
    let lt2 : to - base < length (marks_of pieces) = omega (arith, ap (λ (z : List Mark). length z) is) in
    inl (
      to - base,
      omega arith,
      omega (arith, lt2, length-marks_of pieces s),
      plain_entry pieces s (to - base) lt2
          (ap (λ (z : List Mark). get_or z (to - base) Unmarked) (sym is) ∙ plain),
    )

-- an address in the chunk that may be a target has a plain mark
pub plain_inside : (base limit to : ℕ) (pieces : List Piece) (marks : List Mark) → marks ≡ marks_of pieces → AreSpelled pieces → base ≤ to
    → to - base < length marks → IsTarget base limit pieces to → get_or marks (to - base) Unmarked ≡ Plain
plain_inside base limit to pieces marks is s low lt (inl t) =
    ap (λ (z : List Mark). get_or z (to - base) Unmarked) is ∙ ap (λ (k : ℕ). get_or (marks_of pieces) k Unmarked) (omega (arith, t.1))
    ∙ entry_plain pieces s t.0 t.3
plain_inside base limit to pieces marks is s low lt (inr (inl under, start, below)) = absurd (omega (arith, under))
plain_inside base limit to pieces marks is s low lt (inr (inr past, start, below)) = absurd
    (omega (arith, past, ap (λ (z : List Mark). length z) is, length-marks_of pieces s))

-- an address outside the chunk may be a target where it is a bundle start below the limit
pub target_outside : (base limit to : ℕ) (pieces : List Piece) (marks : List Mark) → marks ≡ marks_of pieces → AreSpelled pieces
    → (base ≤ to → to - base < length marks → ⊥) → to % 32 ≡ 0 → to < limit → IsTarget base limit pieces to
target_outside base limit to pieces marks is s outside start below =
    inr (
      elim (cases_lt to base) [
        | inl under ↦ inl under
        | inr over ↦ inr (elim (cases_lt (to - base) (length marks)) [
          | inl in_chunk ↦ absurd (outside over in_chunk)
          | inr past ↦ omega (arith, ap (λ (z : List Mark). length z) is, length-marks_of pieces s)
        ])
      ],
      start,
      below,
    )

-- an address outside the chunk that may be a target is a bundle start below the limit
pub starts_outside : (base limit to : ℕ) (pieces : List Piece) (marks : List Mark) → marks ≡ marks_of pieces → AreSpelled pieces
    → (base ≤ to → to - base < length marks → ⊥) → IsTarget base limit pieces to → (to % 32 ≡ 0) × (to < limit)
starts_outside base limit to pieces marks is s outside (inl t) =
    absurd (outside (omega (arith, t.1)) (omega (arith, t.1, t.2, ap (λ (z : List Mark). length z) is, length-marks_of pieces s)))
starts_outside base limit to pieces marks is s outside (inr t) = (t.1, t.2)

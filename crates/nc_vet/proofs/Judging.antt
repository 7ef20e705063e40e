-- The judging of targets, place by place.
use Rattle.std.proofs.Common.{◌≡◌, ◌≢◌, ℕ, ◌+◌, ◌%◌, ◌<◌, ◌≤◌, true, false, List, [], ◌∷◌, ◌++◌, length, take, drop, get_or, refl, sym}
use Rattle.std.proofs.Common.{subst, ◌∙◌, ap, arith, inl, inr, append_assoc}
use Rattle.std.specs.Prelude.{IsTrue}
use Rattle.std.proofs.Math.Nat.{eq-or-lt_of_le}
use Rattle.std.proofs.lemmas.List.{length-append, get_or_at, get_or_default}
use Rattle.nc_decode.specs.declared.instruction.Instr.{Instr}
use Rattle.nc_decode.specs.declared.instruction.Flow.{Flow}
use Rattle.nc_decode.specs.declared.instruction.Flow.TheVariants.{Next, Branch, Jump, Call, IndirectJump, IndirectCall, Stop}
use Rattle.nc_decode.specs.declared.instruction.Mark.{Mark}
use Rattle.nc_decode.specs.declared.instruction.Mark.TheVariants.{Unmarked, Plain}
use Rattle.nc_decode.specs.Spelling.{Spells, IsAtFront}
use Rattle.nc_decode.specs.Transfers.{is_direct, is_indirect, target, may_transfer}
use Rattle.nc_decode.proofs.Offered.{direct_begins}
use Rattle.nc_vet.specs.Chunk.{Piece, code_of, place, AreSpelled, AreSound, IsTarget, marks_of}
use Rattle.nc_vet.specs.Faults.{HasFirstBadTarget}
use Rattle.nc_vet.specs.machinery.Steps.{HasReadAll, HasNoBadTargetAt, HasBadTargetAt, HasJudged, HasJudgedAll}
use Rattle.nc_vet.proofs.Pieces.{code_of-append, place-append, piece_some, rest_is, front_within}
use Rattle.nc_vet.proofs.OneReading.{one_at_front}
use Rattle.nc_vet.proofs.MarkedPlaces.{marked, mark_at, first_plain}

-- the code parts at the place of an instruction
pub code_at : (code : List ℕ) (pieces before after : List Piece) (p : Piece) → code ≡ code_of pieces → pieces ≡ before ++ p ∷ after
    → code ≡ code_of before ++ (p.bytes ++ code_of after)
code_at code pieces before after p c e = c ∙ ap (λ (z : List Piece). code_of z) e ∙ code_of-append before (p ∷ after)

-- an instruction stands at the front of the rest of its bundle
pub front_at : (code : List ℕ) (marks : List Mark) (at w : ℕ) (r : HasReadAll code marks) (before after : List Piece) (p : Piece)
    → r.pieces ≡ before ++ p ∷ after → place before ≡ at → w + at % 32 ≡ 32 → IsAtFront (take w (drop at code)) p.instr
front_at code marks at w r before after p e here w-is =
    let tail = rest_is code (p.bytes ++ code_of after) before at (code_at code r.pieces before after p r.parts e) here in
    let inside = r.sound.inside before after p e in
    subst (λ (z : List ℕ). IsAtFront (take w z) p.instr) (sym tail)
    (front_within p.bytes (code_of after) p.instr w (r.sound.spelled before after p e) (omega (arith, inside, here, w-is)))

-- ---- what is no direct transfer has no bad target

-- a direct transfer begins with one of its bytes
byte_at : (code : List ℕ) (marks : List Mark) (at d : ℕ) (r : HasReadAll code marks) (before after : List Piece) (p : Piece)
    → r.pieces ≡ before ++ p ∷ after → place before ≡ at → is_direct p.instr.flow ≡ true → may_transfer (get_or code at d) ≡ true
byte_at code marks at d r before after p e here direct = go p.bytes refl
  where
    go : (bytes : List ℕ) → p.bytes ≡ bytes → may_transfer (get_or code at d) ≡ true
    go [] f = absurd (
        let one = piece_some r.pieces before after p r.sound.spelled e in
        omega (arith, one.0, one.1, ap (λ (z : List ℕ). length z) f))
    go (b ∷ bytes) f =
        let spells : Spells (b ∷ bytes) p.instr = subst (λ (z : List ℕ). Spells z p.instr) f (r.sound.spelled before after p e) in
        let here_is : get_or code at d ≡ b
        = ap (λ (z : List ℕ). get_or z at d) (code_at code r.pieces before after p r.parts e
        ∙ ap (λ (z : List ℕ). code_of before ++ (z ++ code_of after)) f)
        ∙ get_or_at (code_of before) b (bytes ++ code_of after) d at here in
        subst (λ (k : ℕ). may_transfer k ≡ true) (sym here_is) (direct_begins b bytes p.instr spells direct)

-- a place has no bad target where no direct transfer begins with its byte
pub other_byte : (base limit : ℕ) (code : List ℕ) (marks : List Mark) (at d : ℕ) (r : HasReadAll code marks)
    → may_transfer (get_or code at d) ≡ false → HasNoBadTargetAt base limit r.pieces at
other_byte base limit code marks at d r none before after p e here direct =
    absurd (let f : true ≡ false = sym (byte_at code marks at d r before after p e here direct) ∙ none in cc)

-- a direct transfer is no indirect one
not_indirect : (f : Flow) → is_direct f ≡ true → is_indirect f ≡ false
not_indirect Next e = absurd cc
not_indirect Branch e = refl
not_indirect Jump e = refl
not_indirect Call e = refl
not_indirect IndirectJump e = absurd cc
not_indirect IndirectCall e = absurd cc
not_indirect Stop e = absurd cc

-- a direct transfer's mark is plain
pub other_mark : (base limit : ℕ) (code : List ℕ) (marks : List Mark) (at : ℕ) (d : Mark) (r : HasReadAll code marks)
    → get_or marks at d ≢ Plain → HasNoBadTargetAt base limit r.pieces at
other_mark base limit code marks at d r other before after p e here direct =
    absurd (other
    (ap (λ (k : ℕ). get_or marks k d) (sym here)
    ∙ ap (λ (z : List Mark). get_or z (place before) d) r.marks_are
    ∙ mark_at r.pieces before after p d r.sound.spelled e
    ∙ first_plain (is_indirect p.instr.flow) p.instr.reg (not_indirect p.instr.flow direct)))

-- a place has no bad target where no instruction is read
pub none_read : (base limit : ℕ) (code : List ℕ) (marks : List Mark) (at w : ℕ) (r : HasReadAll code marks) → w + at % 32 ≡ 32
    → ((i : Instr) → IsAtFront (take w (drop at code)) i → ⊥) → HasNoBadTargetAt base limit r.pieces at
none_read base limit code marks at w r w-is none before after p e here direct =
    absurd (none p.instr (front_at code marks at w r before after p e here w-is))

-- ---- what is read there

-- a place has no bad target where an instruction is read that is no direct transfer, or has a good target
pub no_bad_target_at : (base limit : ℕ) (code : List ℕ) (marks : List Mark) (at w : ℕ) (i : Instr) (r : HasReadAll code marks) → w + at % 32 ≡ 32
    → IsAtFront (take w (drop at code)) i → (IsTrue (is_direct i.flow) → IsTarget base limit r.pieces (target i (base + at)))
    → HasNoBadTargetAt base limit r.pieces at
no_bad_target_at base limit code marks at w i r w-is f good before after p e here direct =
    let same : i ≡ p.instr = one_at_front (take w (drop at code)) i p.instr f (front_at code marks at w r before after p e here w-is) in
    subst (λ (j : Instr). IsTrue (is_direct j.flow) → IsTarget base limit r.pieces (target j (base + at))) same good direct

-- a place has a bad target where a direct transfer is read that has no good one
pub bad_target_at : (base limit : ℕ) (code : List ℕ) (marks : List Mark) (at w : ℕ) (d : Mark) (i : Instr) (r : HasReadAll code marks)
    → w + at % 32 ≡ 32 → at < length marks → get_or marks at d ≡ Plain → IsAtFront (take w (drop at code)) i → IsTrue (is_direct i.flow)
    → (IsTarget base limit r.pieces (target i (base + at)) → ⊥) → HasBadTargetAt base limit r.pieces at
bad_target_at base limit code marks at w d i r w-is lt plain f direct bad =
    let in_marks : at < length (marks_of r.pieces) = omega (arith, lt, ap (λ (z : List Mark). length z) r.marks_are) in
    let plain_there : get_or (marks_of r.pieces) at Unmarked ≡ Plain = ap (λ (z : List Mark). get_or z at Unmarked) (sym r.marks_are)
    ∙ get_or_default marks at Unmarked d lt ∙ plain in
    let b = marked r.pieces r.sound.spelled at Plain in_marks plain_there (λ e. cc) in
    let same : i ≡ b.piece.instr = one_at_front (take w (drop at code)) i b.piece.instr f
    (front_at code marks at w r b.before b.after b.piece b.parts b.here w-is) in
    record {
      before = b.before;
      after = b.after;
      piece = b.piece;
      parts = b.parts;
      here = b.here;
      direct = subst (λ (j : Instr). IsTrue (is_direct j.flow)) same direct;
      bad = subst (λ (j : Instr). IsTarget base limit r.pieces (target j (base + at)) → ⊥) same bad;
    }

-- ---- place by place

-- with one more place that has no bad target, all places up to it are judged
pub judged_more : (base limit : ℕ) (code : List ℕ) (marks : List Mark) (at : ℕ) (h : HasJudged base limit code marks at)
    → HasNoBadTargetAt base limit h.read.pieces at → HasJudged base limit code marks (at + 1)
judged_more base limit code marks at h well = record {
  read = h.read;
  good = λ k lt. elim (eq-or-lt_of_le {n = k} {m = at} (omega (arith, lt))) [
    | inl here ↦ subst (λ (j : ℕ). HasNoBadTargetAt base limit h.read.pieces j) (sym here) well
    | inr earlier ↦ h.good k earlier
  ];
}

-- an instruction before another begins at a lower place
lower : (pieces before b a after : List Piece) (p q : Piece) → AreSpelled pieces → pieces ≡ before ++ q ∷ after → before ≡ b ++ p ∷ a
    → (pieces ≡ b ++ p ∷ (a ++ q ∷ after)) × (place b < place before)
lower pieces before b a after p q s e f =
    let parts : pieces ≡ b ++ p ∷ (a ++ q ∷ after) = e ∙ ap (λ (z : List Piece). z ++ q ∷ after) f ∙ append_assoc b (p ∷ a) (q ∷ after) in
    let one = piece_some pieces b (a ++ q ∷ after) p s parts in
    (parts, omega (arith, one.0, one.1, ap (λ (z : List Piece). place z) f, place-append b (p ∷ a), length-append p.bytes (code_of a)))

-- the first place with a bad target is the first of the code
pub first_bad_target : (base limit : ℕ) (code : List ℕ) (marks : List Mark) (at : ℕ) (h : HasJudged base limit code marks at)
    → HasBadTargetAt base limit h.read.pieces at → HasFirstBadTarget base limit code (base + at)
first_bad_target base limit code marks at h g = record {
  before = g.before;
  piece = g.piece;
  after = g.after;
  parts = h.read.parts ∙ ap (λ (z : List Piece). code_of z) g.parts;
  sound = subst AreSound g.parts h.read.sound;
  here = ap (λ (k : ℕ). base + k) (sym g.here);
  direct = g.direct;
  bad = λ t. g.bad
      (subst (λ (k : ℕ). IsTarget base limit h.read.pieces (target g.piece.instr (base + k))) g.here
      (subst (λ (z : List Piece). IsTarget base limit z (target g.piece.instr (base + place g.before))) (sym g.parts) t));
  least = λ b a p e direct. (
      let w = lower h.read.pieces g.before b a g.after p g.piece h.read.sound.spelled g.parts e in
      subst (λ (z : List Piece). IsTarget base limit z (target p.instr (base + place b))) g.parts
      (h.good (place b) (omega (arith, w.1, g.here)) b (a ++ g.piece ∷ g.after) p w.0 refl direct));
}

-- once all places of the code have been judged, each direct transfer has a good target
pub judged_all : (base limit : ℕ) (code : List ℕ) (marks : List Mark) (at : ℕ) → HasJudged base limit code marks at → length code ≤ at
    → HasJudgedAll base limit code marks
judged_all base limit code marks at h end = record {
  read = h.read;
  targets = λ before after p e direct. (
      let one = piece_some h.read.pieces before after p h.read.sound.spelled e in
      let whole = ap (λ (z : List ℕ). length z) (code_at code h.read.pieces before after p h.read.parts e) in
      h.good (place before) (omega (
        arith,
        one.0,
        one.1,
        whole,
        end,
        length-append (code_of before) (p.bytes ++ code_of after),
        length-append p.bytes
            (code_of after),
      )) before after p e refl direct);
}

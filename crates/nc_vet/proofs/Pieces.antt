-- Lists of instructions: their bytes, their marks, and one more of them.
use Rattle.std.proofs.Common.{◌≡◌, ℕ, ◌+◌, ◌-◌, ◌%◌, ◌<◌, ◌≤◌, List, [], ◌∷◌, ◌++◌, length, take, drop, refl, sym, subst, ◌∙◌, ap, arith}
use Rattle.std.proofs.Common.{inl, inr, append_assoc, append-nil}
use Rattle.std.specs.Prelude.{IsTrue}
use Rattle.std.proofs.lemmas.List.{length-append, length-replicate}
use Rattle.std.proofs.lemmas.List.Concat.{flat_map-append}
use Rattle.std.proofs.Math.Seq.{drop-append_seam, take-append-add}
use Rattle.nc_decode.specs.declared.instruction.Instr.{Instr}
use Rattle.nc_decode.specs.declared.instruction.Mark.{Mark}
use Rattle.nc_decode.specs.declared.instruction.Mark.TheVariants.{Unmarked}
use Rattle.nc_decode.specs.Spelling.{Spells, IsAtFront}
use Rattle.nc_decode.specs.Transfers.{is_indirect}
use Rattle.nc_decode.proofs.Offered.{spells_some}
use Rattle.nc_vet.specs.Chunk.{Piece, code_of, place, AreSpelled, AreSound, FollowsMask, instr_marks, marks_of, MarkedChunk, IsValid}
use Rattle.nc_vet.specs.machinery.Steps.{HasReadAll}
use Rattle.nc_vet.proofs.Splits.{split_none, split_push}

-- the bytes of instructions and of more after them
pub code_of-append : (xs ys : List Piece) → code_of (xs ++ ys) ≡ code_of xs ++ code_of ys
code_of-append xs ys = flat_map-append (λ (p : Piece). p.bytes) xs ys

-- the bytes of instructions and one more
pub code_of-push : (front : List Piece) (p : Piece) → code_of (front ++ p ∷ []) ≡ code_of front ++ p.bytes
code_of-push front p = code_of-append front (p ∷ []) ∙ ap (λ (z : List ℕ). code_of front ++ z) (append-nil p.bytes)

-- the place after instructions and one more
pub place-push : (front : List Piece) (p : Piece) → place (front ++ p ∷ []) ≡ place front + length p.bytes
place-push front p = ap (λ (z : List ℕ). length z) (code_of-push front p) ∙ length-append (code_of front) p.bytes

-- the place after instructions and more
pub place-append : (xs ys : List Piece) → place (xs ++ ys) ≡ place xs + place ys
place-append xs ys = ap (λ (z : List ℕ). length z) (code_of-append xs ys) ∙ length-append (code_of xs) (code_of ys)

-- the marks of instructions and of more after them
pub marks_of-append : (xs ys : List Piece) → marks_of (xs ++ ys) ≡ marks_of xs ++ marks_of ys
marks_of-append xs ys = flat_map-append (λ (p : Piece). instr_marks p.instr) xs ys

-- the marks of instructions and one more
pub marks_of-push : (front : List Piece) (p : Piece) → marks_of (front ++ p ∷ []) ≡ marks_of front ++ instr_marks p.instr
marks_of-push front p = marks_of-append front (p ∷ []) ∙ ap (λ (z : List Mark). marks_of front ++ z) (append-nil (instr_marks p.instr))

-- each of the first instructions is spelled, and each of the rest
pub spelled_before : (pieces before after : List Piece) → AreSpelled pieces → pieces ≡ before ++ after → AreSpelled before
spelled_before pieces before after s e = λ b a q f. s b (a ++ after) q
    (e ∙ ap (λ (z : List Piece). z ++ after) f ∙ append_assoc b (q ∷ a) after)

-- the instructions after a spelled first one are spelled
pub spelled_after : (p : Piece) (ps : List Piece) → AreSpelled (p ∷ ps) → AreSpelled ps
spelled_after p ps s = λ b a q e. s (p ∷ b) a q (ap (λ (z : List Piece). p ∷ z) e)

-- an instruction has bytes, as many as it says
pub piece_some : (pieces before after : List Piece) (p : Piece) → AreSpelled pieces → pieces ≡ before ++ p ∷ after
    → (p.instr.len ≡ length p.bytes) × (0 < p.instr.len)
piece_some pieces before after p s e = spells_some p.bytes p.instr (s before after p e)

-- instructions have a mark for each byte
pub length-marks_of : (pieces : List Piece) → AreSpelled pieces → length (marks_of pieces) ≡ length (code_of pieces)
length-marks_of [] s = refl
length-marks_of (p ∷ ps) s =
    let one = spells_some p.bytes p.instr (s [] ps p refl) in
    let more = length-marks_of ps (spelled_after p ps s) in
    omega (
      arith,
      length-append (instr_marks p.instr) (marks_of ps),
      length-append p.bytes (code_of ps),
      length-replicate
          (p.instr.len - 1) Unmarked,
      one.0,
      one.1,
      more,
    )

-- a valid chunk has a mark for each byte
pub valid_len : (c : MarkedChunk) → IsValid c → length c.marks ≡ length c.code
valid_len c v = ap (λ (z : List Mark). length z) v.marks_are ∙ length-marks_of v.pieces v.sound.spelled
    ∙ ap (λ (z : List ℕ). length z) (sym v.parts)

-- code that has been read has a mark for each byte
pub read_len : (code : List ℕ) (marks : List Mark) → HasReadAll code marks → length marks ≡ length code
read_len code marks r = ap (λ (z : List Mark). length z) r.marks_are ∙ length-marks_of r.pieces r.sound.spelled
    ∙ ap (λ (z : List ℕ). length z) (sym r.parts)

-- no instruction is sound
pub none_sound : AreSound []
none_sound = record {
  spelled = λ before after p e. absurd (split_none before after p e);
  inside = λ before after p e. absurd (split_none before after p e);
  paired = λ before after p e. absurd (split_none before after p e);
}

-- sound instructions with one more
pub sound_push : (front : List Piece) (p : Piece) → AreSound front → Spells p.bytes p.instr → place front % 32 + length p.bytes ≤ 32
    → (IsTrue (is_indirect p.instr.flow) → FollowsMask front p.instr.reg) → AreSound (front ++ p ∷ [])
sound_push front p s spells inside paired = record {
  spelled = λ before after q e. elim (split_push front before after p q e) [
    | inl w ↦ subst (λ (x : Piece). Spells x.bytes x.instr) w.1 spells
    | inr w ↦ s.spelled before w.0 q w.1
  ];
  inside = λ before after q e. elim (split_push front before after p q e) [
    | inl w ↦ subst (λ (x : Piece). place before % 32 + length x.bytes ≤ 32) w.1
        (subst (λ (b : List Piece). place b % 32 + length p.bytes ≤ 32) (sym w.0) inside)
    | inr w ↦ s.inside before w.0 q w.1
  ];
  paired = λ before after q e. elim (split_push front before after p q e) [
    | inl w ↦ subst (λ (x : Piece). IsTrue (is_indirect x.instr.flow) → FollowsMask before x.instr.reg) w.1
        (subst (λ (b : List Piece). IsTrue (is_indirect p.instr.flow) → FollowsMask b p.instr.reg) (sym w.0) paired)
    | inr w ↦ s.paired before w.0 q w.1
  ];
}

-- the rest of the code, where it is counted from the place after the front
pub rest_is : (code rest : List ℕ) (front : List Piece) (at : ℕ) → code ≡ code_of front ++ rest → place front ≡ at → drop at code ≡ rest
rest_is code rest front at parts here =
    ap (λ (n : ℕ). drop n code) (sym here) ∙ ap (λ (z : List ℕ). drop (place front) z) parts ∙ drop-append_seam (code_of front) rest

-- an instruction at the front of the bytes is at the front of enough of them
pub front_within : (bytes rest : List ℕ) (i : Instr) (w : ℕ) → Spells bytes i → length bytes ≤ w → IsAtFront (take w (bytes ++ rest)) i
front_within bytes rest i w s long =
    let w-is : w ≡ length bytes + (w - length bytes) = omega arith in
    record {
      front = bytes;
      rest = take (w - length bytes) rest;
      parts = ap (λ (n : ℕ). take n (bytes ++ rest)) w-is ∙ take-append-add bytes rest (w - length bytes);
      spells = s;
    }

-- an instruction that ends in a window is at the front of the window
pub front_cut : (bytes : List ℕ) (i : Instr) (w : ℕ) → IsAtFront bytes i → i.len ≤ w → IsAtFront (take w bytes) i
front_cut bytes i w f long =
    subst (λ (z : List ℕ). IsAtFront (take w z) i) (sym f.parts)
    (front_within f.front f.rest i w f.spells (omega (arith, (spells_some f.front i f.spells).0, long)))

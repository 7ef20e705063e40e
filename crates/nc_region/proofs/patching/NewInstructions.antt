-- Bytes that are whole instructions, the first of them taken off.
use Rattle.std.proofs.Common.{◌≡◌, ℕ, ◌+◌, ◌-◌, ◌<◌, List, [], ◌∷◌, ◌++◌, length, take, drop, Option, Some, None, refl}
use Rattle.std.proofs.Common.{sym, subst, ◌∙◌, ap, arith}
use Rattle.std.proofs.lemmas.List.{length-append, nil_from_length, take-append-drop}
use Rattle.std.proofs.Math.Seq.{drop-append_seam}
use Rattle.nc_decode.specs.declared.instruction.Instr.{Instr}
use Rattle.nc_decode.specs.Front.{first_instruction}
use Rattle.nc_decode.specs.Spelling.{Spells}
use Rattle.nc_decode.proofs.Offered.{exact, has_its_length, spells_some}
use Rattle.nc_text.specs.MarkedText.{with_span}
use Rattle.nc_vet.specs.Chunk.{Piece, code_of, AreSpelled}
use Rattle.nc_vet.proofs.Offered.{spelled_after, split_none, none_after}
use Rattle.nc_region.specs.Patch.{AreBytesOf, AreInstructions}
use Rattle.nc_base.proofs.Offered.{slice_rest, some_same}

-- the empty list of bytes is that of no instructions
pub no_bytes : AreBytesOf [] []
no_bytes = record { spelled = λ before after p e. absurd (split_none before after p e); parts = refl }

-- a list with no element of a span set is the same
pub span_none : (xs : List ℕ) (start : ℕ) → with_span xs start [] ≡ xs
span_none xs start =
    let e : start + 0 ≡ start = omega arith in
    ap (λ (n : ℕ). take start xs ++ drop n xs) e ∙ take-append-drop start xs

-- where there are no bytes there are no instructions
pub none_of_none : (bytes : List ℕ) (news : List Piece) → length bytes ≡ 0 → AreBytesOf bytes news → news ≡ []
none_of_none bytes news none b = none_after news b.spelled (sym (ap (λ (z : List ℕ). length z) b.parts) ∙ none)

-- the empty list of bytes is a list of whole instructions
pub instructions_none : (bytes : List ℕ) → length bytes ≡ 0 → AreInstructions bytes
instructions_none bytes none = ([], subst (λ (z : List ℕ). AreBytesOf z []) (sym (nil_from_length bytes none)) no_bytes)

-- the first of some instructions, and the others
pub record Parted (bytes : List ℕ) (news : List Piece) (i : Instr) : Type 0 where
  pub first : Piece
  pub rest : List Piece
  pub is : news ≡ first ∷ rest
  pub instr : first.instr ≡ i
  pub spells : Spells first.bytes first.instr
  pub len : i.len ≡ length first.bytes
  pub some : 0 < i.len
  pub front : take i.len bytes ≡ first.bytes
  pub behind : AreBytesOf (take (length bytes - i.len) (drop i.len bytes)) rest
  pub long : length bytes ≡ length first.bytes + length (drop i.len bytes)

-- the first of some instructions is found
pub found_first : (bytes : List ℕ) (p : Piece) (rest : List Piece) → AreBytesOf bytes (p ∷ rest) → first_instruction bytes ≡ Some p.instr
found_first bytes p rest b = (exact bytes p.instr).1
    (record { front = p.bytes; rest = code_of rest; parts = b.parts; spells = b.spelled [] rest p refl })

-- the first of two parts
pub take_seam : (xs ys : List ℕ) → take (length xs) (xs ++ ys) ≡ xs
take_seam [] ys = refl
take_seam (x ∷ xs) ys = ap (λ (z : List ℕ). x ∷ z) (take_seam xs ys)

-- the first instruction of the new bytes
pub parted : (bytes : List ℕ) (news : List Piece) (i : Instr) → AreBytesOf bytes news → first_instruction bytes ≡ Some i
    → Parted bytes news i
parted bytes [] i b is = absurd (let own = has_its_length bytes i is in omega (arith, own.0, own.1, ap (λ (z : List ℕ). length z) b.parts))
parted bytes (p ∷ rest) i b is =
    let same : p.instr ≡ i = some_same (first_instruction bytes) p.instr i (found_first bytes p rest b) is in
    let n = spells_some p.bytes p.instr (b.spelled [] rest p refl) in
    let len : i.len ≡ length p.bytes = ap (λ (j : Instr). j.len) (sym same) ∙ n.0 in
    let behind : drop i.len bytes ≡ code_of rest = ap (λ (k : ℕ). drop k bytes) len
    ∙ (ap (λ (z : List ℕ). drop (length p.bytes) z) b.parts ∙ drop-append_seam p.bytes (code_of rest)) in
    let front : take i.len bytes ≡ p.bytes = ap (λ (k : ℕ). take k bytes) len
    ∙ (ap (λ (z : List ℕ). take (length p.bytes) z) b.parts ∙ take_seam p.bytes (code_of rest)) in
    record {
      first = p;
      rest = rest;
      is = refl;
      instr = same;
      spells = b.spelled [] rest p refl;
      len = len;
      some = omega (arith, n.1, n.0, len);
      front = front;
      behind = record { spelled = spelled_after p rest b.spelled; parts = slice_rest bytes i.len ∙ behind };
      long = ap (λ (z : List ℕ). length z) b.parts
          ∙ (length-append p.bytes (code_of rest) ∙ ap (λ (z : List ℕ). length p.bytes + length z) (sym behind));
    }

-- bytes with no instruction at their front are the bytes of no pieces
pub not_found : (bytes : List ℕ) → (0 < length bytes) → first_instruction bytes ≡ None → (news : List Piece) → AreBytesOf bytes news → ⊥
not_found bytes some none [] b = omega (arith, some, ap (λ (z : List ℕ). length z) b.parts)
not_found bytes some none (p ∷ rest) b = let f = found_first bytes p rest b in differ (first_instruction bytes) p.instr none f
  where
    differ : (o : Option Instr) (i : Instr) → o ≡ None → o ≡ Some i → ⊥
    differ o i e f = cc

-- a list of pieces is spelled if its first piece and the others are
pub spelled_cons : (p : Piece) (rest : List Piece) → Spells p.bytes p.instr → AreSpelled rest → AreSpelled (p ∷ rest)
spelled_cons p rest one others [] after q e = let h : p ≡ q = cc in subst (λ (x : Piece). Spells x.bytes x.instr) h one
spelled_cons p rest one others (b ∷ before) after q e = others before after q (cc)

-- bytes with an instruction in front are instructions if those behind it are
pub one_more : (bytes : List ℕ) (i : Instr) → first_instruction bytes ≡ Some i
    → AreInstructions (take (length bytes - i.len) (drop i.len bytes)) → AreInstructions bytes
one_more bytes i is others =
    let f = (exact bytes i).0 is in
    let n = spells_some f.front i f.spells in
    let behind : drop i.len bytes ≡ f.rest = ap (λ (k : ℕ). drop k bytes) n.0
    ∙ (ap (λ (z : List ℕ). drop (length f.front) z) f.parts ∙ drop-append_seam f.front f.rest) in (
      (record { bytes = f.front; instr = i }) ∷ others.0,
      record {
        spelled = spelled_cons (record { bytes = f.front; instr = i }) others.0 f.spells others.1.spelled;
        parts = f.parts ∙ ap (λ (z : List ℕ). f.front ++ z) (sym behind ∙ (sym (slice_rest bytes i.len) ∙ others.1.parts));
      },
    )

-- the bytes after the first instruction are instructions
pub rest_are : (bytes : List ℕ) (i : Instr) → first_instruction bytes ≡ Some i → AreInstructions bytes
    → AreInstructions (take (length bytes - i.len) (drop i.len bytes))
rest_are bytes i is all = let p = parted bytes all.0 i all.1 is in (p.rest, p.behind)

-- the bytes of the first instruction and those behind it are all
pub whole_again : (bytes : List ℕ) (news : List Piece) (i : Instr) (p : Parted bytes news i)
    → p.first.bytes ++ take (length bytes - i.len) (drop i.len bytes) ≡ bytes
whole_again bytes news i p = ap (λ (z : List ℕ). z ++ take (length bytes - i.len) (drop i.len bytes)) (sym p.front)
    ∙ (ap (λ (z : List ℕ). take i.len bytes ++ z) (slice_rest bytes i.len) ∙ take-append-drop i.len bytes)

-- A code is read in one way: two lists of instructions with the same bytes agree as far as both go.
use Rattle.std.proofs.Common.{◌≡◌, ℕ, List, [], ◌∷◌, ◌++◌, length, take, refl, sym, ◌∙◌, ap, arith, inl, inr, ◌⊎◌, append_assoc}
use Rattle.std.proofs.Common.{append-nil, Option, Some}
use Rattle.std.proofs.lemmas.List.{length-append, take_at, append_cancel_left}
use Rattle.nc_decode.specs.declared.instruction.Instr.{Instr}
use Rattle.nc_decode.specs.Spelling.{Spells, IsAtFront}
use Rattle.nc_decode.proofs.Offered.{spells_some}
use Rattle.nc_decode.proofs.Offered.{exact}
use Rattle.nc_vet.specs.Chunk.{Piece, code_of, place, AreSpelled}
use Rattle.nc_vet.proofs.Pieces.{spelled_after, place-append}

-- an instruction that was found
abbrev found : Instr → Option Instr
found i = Some i

-- at most one instruction is at the front
pub one_at_front : (bytes : List ℕ) (i j : Instr) → IsAtFront bytes i → IsAtFront bytes j → i ≡ j
one_at_front bytes i j f g = same i j (sym ((exact bytes i).1 f) ∙ (exact bytes j).1 g)
  where
    same : (a b : Instr) → found a ≡ found b → a ≡ b
    same a b e = cc

-- two instructions at the front of the same bytes have the same bytes
same_front : (xs ys r s : List ℕ) (i j : Instr) → Spells xs i → Spells ys j → xs ++ r ≡ ys ++ s → (xs ≡ ys) × (i ≡ j)
same_front xs ys r s i j a b e =
    let k : i ≡ j = one_at_front (xs ++ r) i j (record { front = xs; rest = r; parts = refl; spells = a })
    (record { front = ys; rest = s; parts = e; spells = b }) in
    let n = spells_some xs i a in
    let m = spells_some ys j b in
    let l : length xs ≡ length ys = sym n.0 ∙ ap (λ (x : Instr). x.len) k ∙ m.0 in
    (sym (take_at xs r (length xs) refl) ∙ ap (λ (z : List ℕ). take (length xs) z) e ∙ take_at ys s (length xs) (sym l), k)

-- the second list goes on after the first
pub record GoesOn (xs ys : List Piece) : Type 0 where
  pub more : List Piece
  pub parts : ys ≡ xs ++ more

-- one of two lists of instructions at the beginning of the same bytes goes on after the other
pub agree : (xs ys : List Piece) (r s : List ℕ) → AreSpelled xs → AreSpelled ys → code_of xs ++ r ≡ code_of ys ++ s → GoesOn xs ys
    ⊎ GoesOn ys xs
agree [] ys r s a b e = inl (record { more = ys; parts = refl })
agree (x ∷ xs) [] r s a b e = inr (record { more = x ∷ xs; parts = refl })
agree (x ∷ xs) (y ∷ ys) r s a b e =
    let f : x.bytes ++ (code_of xs ++ r) ≡ y.bytes ++ (code_of ys ++ s) = sym (append_assoc x.bytes (code_of xs) r) ∙ e
    ∙ append_assoc y.bytes (code_of ys) s in
    let w = same_front x.bytes y.bytes (code_of xs ++ r) (code_of ys ++ s) x.instr y.instr (a [] xs x refl) (b [] ys y refl) f in
    let tail : code_of xs ++ r ≡ code_of ys ++ s = append_cancel_left x.bytes (code_of xs ++ r) (code_of ys ++ s)
    (f ∙ ap (λ (z : List ℕ). z ++ (code_of ys ++ s)) (sym w.0)) in
    let h : x ≡ y = same_piece x y w.0 w.1 in
    elim (agree xs ys r s (spelled_after x xs a) (spelled_after y ys b) tail) [
      | inl g ↦ inl (record {
        more = g.more;
        parts = ap (λ (z : List Piece). y ∷ z) g.parts
            ∙ ap (λ (p : Piece). p ∷ (xs ++ g.more)) (sym h);
      })
      | inr g ↦ inr (record { more = g.more; parts = ap (λ (z : List Piece). x ∷ z) g.parts ∙ ap (λ (p : Piece). p ∷ (ys ++ g.more)) h })
    ]
  where
    same_piece : (p q : Piece) → p.bytes ≡ q.bytes → p.instr ≡ q.instr → p ≡ q
    same_piece p q e f = ap (λ (z : List ℕ). record { bytes = z; instr = p.instr }) e
        ∙ ap (λ (z : Instr). record { bytes = q.bytes; instr = z }) f

-- instructions without bytes are none
pub none_after : (more : List Piece) → AreSpelled more → length (code_of more) ≡ 0 → more ≡ []
none_after [] s e = refl
none_after (p ∷ ps) s e =
    let one = spells_some p.bytes p.instr (s [] ps p refl) in
    absurd (omega (arith, one.0, one.1, e, length-append p.bytes (code_of ps)))

-- two lists of instructions with the same bytes are the same
pub same_pieces : (xs ys : List Piece) → AreSpelled xs → AreSpelled ys → code_of xs ≡ code_of ys → xs ≡ ys
same_pieces xs ys a b e =
    elim (agree xs ys [] [] a b (ap (λ (z : List ℕ). z ++ []) e)) [
      | inl on ↦ sym (append-nil xs) ∙ ap (λ (z : List Piece). xs ++ z) (sym (all xs ys on.more b on.parts (sym e))) ∙ sym on.parts
      | inr on ↦ on.parts ∙ ap (λ (z : List Piece). ys ++ z) (all ys xs on.more a on.parts e) ∙ append-nil ys
    ]
  where
    all : (us vs more : List Piece) → AreSpelled vs → vs ≡ us ++ more → code_of vs ≡ code_of us → more ≡ []
    all us vs more s f g =
        none_after more (λ before after p h. s (us ++ before) after p
        (f ∙ ap (λ (z : List Piece). us ++ z) h ∙ sym (append_assoc us before (p ∷ after))))
        (omega (arith, ap (λ (z : List ℕ). length z) g, ap (λ (z : List Piece). place z) f, place-append us more))

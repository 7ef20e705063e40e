-- When the instruction that comes leaves the pairs of a chunk alone.
use Rattle.std.proofs.Common.{◌≡◌, ℕ, ◌+◌, ◌<◌, Bool, true, List, [], ◌∷◌, length, get_or, suc, ◌&&◌, ◌==◌}
use Rattle.std.proofs.Common.{refl, sym, subst, ◌∙◌, ap, arith, eq-eqb}
use Rattle.std.specs.Prelude.{◌↔◌}
use Rattle.std.proofs.lemmas.List.{ext_get_or}
use Rattle.nc_decode.specs.declared.instruction.Instr.{Instr}
use Rattle.nc_vet.specs.Chunk.{Piece, mark_of}
use Rattle.nc_text.specs.Places.{byte_at}
use Rattle.nc_text.specs.Marks.{mark_at}
use Rattle.nc_text.specs.MarkedText.{MarkedText, IsText}
use Rattle.nc_list.specs.declared.chunk.Chunk.{Chunk}
use Rattle.nc_region.specs.Patch.{GoesOnIndirectly, SparesPair, SparesPairs, stands_there}
use Rattle.nc_region.specs.machinery.PatchSteps.{Begins, is_after}
use Rattle.nc_region.proofs.patching.Standing.{stands_with, next_begins, goes_on}
use Rattle.nc_region.proofs.patching.Turns.{stands_bytes}

-- what stands where this instruction of the chunk begins, and whether the one after it is a second half
pub record StandsAs (marked : MarkedText) (at : ℕ) (old : Piece) (rest : List Piece) : Type 0 where
  pub mark : mark_at marked.marks at ≡ mark_of old.instr
  pub bytes : (k : ℕ) → k < length old.bytes → byte_at marked.bytes (at + k) ≡ get_or old.bytes k 0
  pub goes_on : (len : ℕ) → len ≡ length old.bytes → (is_after (mark_at marked.marks (at + len)) ≡ true) ↔ GoesOnIndirectly rest

-- the first members are the same, and so are the others
same_first : (p q : Piece) (xs ys : List Piece) → p ∷ xs ≡ q ∷ ys → (p ≡ q) × (xs ≡ ys)
same_first p q xs ys e = (cc, cc)

-- an instruction of a chunk that begins at a place stands there in the text
pub stands_as : (marked : MarkedText) (c : Chunk) (at : ℕ) → IsText marked → (b : Begins marked c at) (old : Piece) (rest : List Piece)
    → b.rest ≡ old ∷ rest → StandsAs marked at old rest
stands_as marked c at t b old rest is =
    let s = stands_with marked c at t b old rest is in
    let same = same_first s.piece old s.rest rest (sym s.is ∙ is) in
    let long : s.piece.instr.len ≡ length old.bytes = s.len ∙ ap (λ (p : Piece). length p.bytes) same.0 in
    record {
      mark = s.mark ∙ ap (λ (p : Piece). mark_of p.instr) same.0;
      bytes = λ k lt. s.bytes k (omega (arith, lt, long)) ∙ ap (λ (p : Piece). get_or p.bytes k 0) same.0;
      goes_on = λ len e.
          subst (λ (z : List Piece). (is_after (mark_at marked.marks (at + len)) ≡ true) ↔ GoesOnIndirectly z) same.1
          (goes_on marked c (at + len) t (next_begins marked c at b s len (e ∙ sym long)));
    }

-- bytes that stand there are those of the instruction that stands there
pub bytes_stay : (text : List ℕ) (at : ℕ) (new old : List ℕ) → length old ≡ length new
    → ((k : ℕ) → k < length old → byte_at text (at + k) ≡ get_or old k 0) → stands_there text at new ≡ true → new ≡ old
bytes_stay text at new old long there stands =
    ext_get_or 0 new old (sym long)
    (λ k lt. sym (stands_bytes text at new stands k lt) ∙ there k (omega (arith, lt, long)))

-- bytes that the text has at a place pass the test that they stand there
pub stands_if : (text : List ℕ) (at : ℕ) (bytes : List ℕ) → ((k : ℕ) → k < length bytes → byte_at text (at + k) ≡ get_or bytes k 0)
    → stands_there text at bytes ≡ true
stands_if text at [] there = refl
stands_if text at (b ∷ rest) there =
    let here : at + 0 ≡ at = omega arith in
    let first : (byte_at text at == b) ≡ true = eq-eqb (byte_at text at) b (ap (byte_at text) (sym here) ∙ there 0 (omega arith)) in
    ap (λ (z : Bool). z && stands_there text (at + 1) rest) first
    ∙ stands_if text (at + 1) rest (λ k lt. (let e : at + 1 + k ≡ at + suc k = omega arith in ap (byte_at text) e
    ∙ there (suc k) (omega (arith, lt))))

-- the empty list of new instructions spares pairs
pub spares_none : (rest news : List Piece) → news ≡ [] → SparesPairs rest news
spares_none rest news e = rw e tt

-- a piece by its parts
pub same_piece : (p : Piece) (bytes : List ℕ) (i : Instr) → p.bytes ≡ bytes → p.instr ≡ i → p ≡ record { bytes = bytes; instr = i }
same_piece p bytes i e f = rw (← e, ← f) refl

-- new instructions spare pairs if the first one and the others do
pub spares_from : (rest news : List Piece) (p n : Piece) (others more : List Piece) → rest ≡ p ∷ others → news ≡ n ∷ more
    → SparesPair p others n → SparesPairs others more → SparesPairs rest news
spares_from rest news p n others more e f one each = rw (e, f) (one, each)

-- where new instructions spare pairs, the first one and the others do
pub spares_to : (rest news : List Piece) (p n : Piece) (others more : List Piece) → rest ≡ p ∷ others → news ≡ n ∷ more
    → SparesPairs rest news → SparesPair p others n × SparesPairs others more
spares_to rest news p n others more e f each =
    subst (λ (z : List Piece). SparesPairs (p ∷ others) z) f (subst (λ (z : List Piece). SparesPairs z news) e each)

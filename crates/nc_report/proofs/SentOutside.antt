-- What the instructions of some code send outside of it.
use Rattle.std.proofs.Common.{◌≡◌, ℕ, ◌+◌, ◌≤◌, List, [], ◌∷◌, ◌++◌, length, drop, refl, sym, ◌∙◌, ap, arith, append_assoc, append-nil, length-append, drop_at, length-drop}
use Rattle.nc_decode.specs.declared.instruction.Instr.{Instr}
use Rattle.nc_decode.specs.Spelling.{IsAtFront}
use Rattle.nc_decode.proofs.Offered.{spells_some}
use Rattle.nc_vet.specs.Chunk.{Piece, code_of, place, AreSpelled}
use Rattle.nc_vet.proofs.Offered.{code_of-append, place-push, one_at_front}
use Rattle.nc_report.specs.Outside.{sent_outside, all_sent}
use Rattle.nc_report.specs.machinery.Runs.{KnowsSent, HasReadCode, IsSent}

-- what two lists of instructions send outside is what the first sends, and then the second
sent_append : (base len at : ℕ) (xs ys : List Piece)
    → all_sent base len at (xs ++ ys) ≡ all_sent base len at xs ++ all_sent base len (at + place xs) ys
sent_append base len at [] ys = ap (λ (n : ℕ). all_sent base len n ys) (omega arith)
sent_append base len at (p ∷ ps) ys =
    let sent = sent_outside base len p.instr at in
    let next = at + length p.bytes in
    ap (λ (z : List ℕ). sent ++ z)
    (sent_append base len next ps ys
    ∙ ap (λ (n : ℕ). all_sent base len next ps ++ all_sent base len n ys) (omega (arith, length-append p.bytes (code_of ps))))
    ∙ sym (append_assoc sent (all_sent base len next ps) (all_sent base len (at + place (p ∷ ps)) ys))

-- before the first instruction no target outside is known
pub none_read : (base : ℕ) (code : List ℕ) → HasReadCode base code 0 []
none_read base code = λ pieces s e. record { before = []; after = pieces; parts = refl; here = refl; known = refl }

-- what is left of the code from a place on is the code of the instructions from there on
left_is : (code : List ℕ) (at : ℕ) (before after : List Piece) → code ≡ code_of (before ++ after) → place before ≡ at
    → drop at code ≡ code_of after
left_is code at before after e here =
    ap (λ (z : List ℕ). drop at z) (e ∙ code_of-append before after) ∙ drop_at (code_of before) (code_of after) at here

-- the targets outside that are known go on by those of the next instruction
pub read_more : (base at : ℕ) (code sent new : List ℕ) (i : Instr) → HasReadCode base code at sent → IsAtFront (drop at code) i
    → new ≡ sent ++ sent_outside base (length code) i (base + at) → HasReadCode base code (at + i.len) new
read_more base at code sent new i has f e = λ pieces s parts. let r = has pieces s parts in go pieces s parts r r.after r.parts
  where
    go : (pieces : List Piece) → AreSpelled pieces → code ≡ code_of pieces → (r : KnowsSent base (length code) pieces at sent)
        (after : List Piece) → pieces ≡ r.before ++ after → KnowsSent base (length code) pieces (at + i.len) new
    go pieces s parts r [] is =
        let some = spells_some f.front i f.spells in
        let none = left_is code at r.before [] (parts ∙ ap code_of is) r.here in
        absurd (omega (arith, some.0, some.1, ap (λ (z : List ℕ). length z) (sym f.parts ∙ none), length-append f.front f.rest))
    go pieces s parts r (p ∷ ps) is =
        let left = left_is code at r.before (p ∷ ps) (parts ∙ ap code_of is) r.here in
        let spells = s r.before ps p is in
        let same : i ≡ p.instr = one_at_front (drop at code) i p.instr f
        (record { front = p.bytes; rest = code_of ps; parts = left; spells = spells }) in
        let len : i.len ≡ length p.bytes = ap (λ (x : Instr). x.len) same ∙ (spells_some p.bytes p.instr spells).0 in
        let known = all_sent base (length code) base r.before in
        record {
          before = r.before ++ p ∷ [];
          after = ps;
          parts = is ∙ sym (append_assoc r.before (p ∷ []) ps);
          here = place-push r.before p ∙ omega (arith, r.here, len);
          known = e ∙ ap (λ (z : List ℕ). z ++ sent_outside base (length code) i (base + at)) r.known
              ∙ ap (λ (x : Instr). known ++ sent_outside base (length code) x (base + at)) same
              ∙ ap (λ (n : ℕ). known ++ sent_outside base (length code) p.instr (base + n)) (sym r.here)
              ∙ ap (λ (z : List ℕ). known ++ z) (sym (append-nil (sent_outside base (length code) p.instr (base + place r.before))))
              ∙ sym (sent_append base (length code) base r.before (p ∷ []));
        }

-- where no instruction is left, all targets outside are known
pub all_known : (base at : ℕ) (code sent : List ℕ) → HasReadCode base code at sent → ((i : Instr) → IsAtFront (drop at code) i → ⊥)
    → IsSent base code sent
all_known base at code sent has none = λ pieces s parts. let r = has pieces s parts in go pieces s parts r r.after r.parts
  where
    go : (pieces : List Piece) → AreSpelled pieces → code ≡ code_of pieces → (r : KnowsSent base (length code) pieces at sent)
        (after : List Piece) → pieces ≡ r.before ++ after → sent ≡ all_sent base (length code) base pieces
    go pieces s parts r [] is = r.known ∙ ap (λ (z : List Piece). all_sent base (length code) base z) (sym (is ∙ append-nil r.before))
    go pieces s parts r (p ∷ ps) is =
        absurd (none p.instr (record {
          front = p.bytes;
          rest = code_of ps;
          parts = left_is code at r.before (p ∷ ps) (parts ∙ ap code_of is) r.here;
          spells = s r.before ps p is;
        }))

-- at the end of the code no instruction is left
pub none_at_end : (code : List ℕ) (at : ℕ) (i : Instr) → length code ≤ at → IsAtFront (drop at code) i → ⊥
none_at_end code at i le f =
    let some = spells_some f.front i f.spells in
    omega (arith, some.0, some.1, le, ap (λ (z : List ℕ). length z) f.parts, length-append f.front f.rest, length-drop at code)

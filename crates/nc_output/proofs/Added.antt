-- Bytes that were added to others, and bytes that differ.
use Rattle.std.proofs.Common.{◌≡◌, ◌≢◌, ◌++◌, ◌-◌, ℕ, false, eqb, List, Result, Ok, Err, OnOk, is_ok, cond, ⊎_elim, length, take, drop}
use Rattle.std.proofs.Common.{sym, ap, ◌∙◌, append_assoc, take-append-drop}
use Rattle.std.proofs.lemmas.List.{take_rest}
use Rattle.std.proofs.lemmas.Bool.Decides.{eqb_tells}

-- what was added where all of the bytes were
pub added : {T E : Type 0} (r : Result T E) (new old bytes : List ℕ) (P : List ℕ → Type 0) → new ≡ cond (is_ok r) (old ++ bytes) old
    → P bytes → OnOk r ((reply : List ℕ) × (new ≡ old ++ reply) × P reply)
added (Ok x) new old bytes P e p = (bytes, e, p)
added (Err x) new old bytes P e p = tt

-- where all bytes were added, they stand at the end
pub added_all : {T E : Type 0} (r : Result T E) (new old bytes : List ℕ) → new ≡ cond (is_ok r) (old ++ bytes) old
    → OnOk r (new ≡ old ++ bytes)
added_all (Ok x) new old bytes e = e
added_all (Err x) new old bytes e = tt

-- three parts were added, one after another
pub three_added : (o a b c n1 n2 n3 : List ℕ) → n1 ≡ o ++ a → n2 ≡ n1 ++ b → n3 ≡ n2 ++ c → n3 ≡ o ++ (a ++ (b ++ c))
three_added o a b c n1 n2 n3 e1 e2 e3 = simp (e3, e2, e1, append_assoc)

-- the bytes so far go on by those that are taken next
pub moves_front : (all done rest : List ℕ) (n : ℕ) → all ≡ done ++ rest → all ≡ (done ++ take n rest) ++ take (length rest - n) (drop n rest)
moves_front all done rest n e =
    e ∙ ap (λ (l : List ℕ). done ++ l) (sym (take-append-drop n rest)) ∙ sym (append_assoc done (take n rest) (drop n rest))
    ∙ ap (λ (l : List ℕ). (done ++ take n rest) ++ l) (sym (take_rest rest n))

-- bytes that differ are told apart
pub eqb_no : (a b : ℕ) → a ≢ b → eqb a b ≡ false
eqb_no a b ne = ⊎_elim (λ h. absurd (ne h.1)) (λ h. h.0) (eqb_tells a b)

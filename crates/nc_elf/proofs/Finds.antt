-- The first of numbered elements that passes a test.
use Rattle.std.proofs.Common.{◌≡◌, ℕ, zero, suc, ◌+◌, ◌<◌, ◌≤◌, Bool, true, false, cond, Some, None, map, find, ap, sym, ◌∙◌, subst, refl, inl, inr, arith}
use Rattle.std.specs.List.{range_with_len}
use Rattle.std.proofs.lemmas.Bool.{cases_Bool, cases_order, false≢true}

-- an element that passes is found where those before it fail
pub find_here : {X : Type 0} (p : X → Bool) (f : ℕ → X) (a n i : ℕ) → a ≤ i → i < a + n → ((j : ℕ) → a ≤ j → j < i → p (f j) ≡ false)
    → p (f i) ≡ true → find p (map f (range_with_len a n)) ≡ Some (f i)
find_here p f a zero i le lt fails passes = absurd (omega arith)
find_here {X} p f a (suc n) i le lt fails passes =
    elim (cases_Bool (p (f a))) [
      | inl e ↦
          let same : a ≡ i = elim (cases_order a i) [
            | inl q ↦ q
            | inr (inl l) ↦ absurd (false≢true (sym (fails a (omega arith) l) ∙ e))
            | inr (inr l) ↦ absurd (omega arith)
          ] in
          ap (λ (b : Bool). cond b (Some (f a)) (find p (map f (range_with_len (a + 1) n)))) e ∙ ap (λ (j : ℕ). Some (f j)) same
      | inr e ↦
          let differ : a ≡ i → ⊥ = λ q. false≢true (sym e ∙ subst (λ (j : ℕ). p (f j) ≡ true) (sym q) passes) in
          ap (λ (b : Bool). cond b (Some (f a)) (find p (map f (range_with_len (a + 1) n)))) e
          ∙ find_here p f (a + 1) n i (omega (arith, differ)) (omega arith) (λ j l. fails j (omega (arith, l))) passes
    ]

-- no element is found where all fail
pub find_nowhere : {X : Type 0} (p : X → Bool) (f : ℕ → X) (a n : ℕ) → ((j : ℕ) → a ≤ j → j < a + n → p (f j) ≡ false)
    → find p (map f (range_with_len a n)) ≡ None
find_nowhere p f a zero fails = refl
find_nowhere p f a (suc n) fails =
    ap (λ (b : Bool). cond b (Some (f a)) (find p (map f (range_with_len (a + 1) n)))) (fails a (omega arith) (omega arith))
    ∙ find_nowhere p f (a + 1) n (λ j l m. fails j (omega (arith, l)) (omega (arith, m)))

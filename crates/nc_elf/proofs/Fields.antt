-- The field of a table of strings in which a name stands.
use Rattle.std.proofs.Common.{◌≡◌, ℕ, ◌-◌, List, length, take, drop, min, ap, ◌∙◌, arith}
use Rattle.std.proofs.lemmas.List.{take_all, take_min, drop_min, length-drop}

-- from a place in the table, or its end, up to 256 bytes, or to its end
pub field_from : (texts : List ℕ) (name a b : ℕ) → a ≡ min name (length texts)
    → b ≡ min 256 (length (take (length texts - a) (drop a texts)))
    → take b (take (length texts - a) (drop a texts)) ≡ take 256 (drop name texts)
field_from texts name a b at len =
    let rest : take (length texts - a) (drop a texts) ≡ drop name texts =
    take_all _ _ (omega (arith, length-drop a texts)) ∙ ap (λ (n : ℕ). drop n texts) at ∙ drop_min name texts in
    ap (λ (n : ℕ). take n (take (length texts - a) (drop a texts))) len
    ∙ take_min 256 (take (length texts - a) (drop a texts)) ∙ ap (λ (xs : List ℕ). take 256 xs) rest

-- The puts at chosen places, one more place at a time.
use Rattle.std.proofs.Common.{◌≡◌, ℕ, ◌+◌, ◌<◌, Bool, true, false, cond, List, [], ◌∷◌, ◌++◌, length, get_or, take}
use Rattle.std.proofs.Common.{arith, refl, ◌∙◌, ap, subst, add-zero, suc}
use Rattle.std.proofs.lemmas.List.{append-nil, take_more, length-take}
use Rattle.nc_acts.specs.declared.acts.Act.{Act}
use Rattle.nc_acts.specs.declared.acts.Act.TheVariants.{Put}
use Rattle.nc_acts.specs.Acts.{puts_where}

-- an act before a list that grows
one_more : (b : Bool) (y : Act) (p q r : List Act) → p ≡ q ++ r → cond b (y ∷ p) p ≡ cond b (y ∷ q) q ++ r
one_more true y p q r e = ap (λ (z : List Act). y ∷ z) e
one_more false y p q r e = e

-- the puts of bytes and of those after them
pub puts_append : (chosen : ℕ → Bool) (at : ℕ) (front back : List ℕ)
    → puts_where chosen at (front ++ back) ≡ puts_where chosen at front ++ puts_where chosen (at + length front) back
puts_append chosen at [] back = rw add-zero refl
puts_append chosen at (x ∷ rest) back =
    let e : at + 1 + length rest ≡ at + suc (length rest) = omega arith in
    one_more (chosen at) (Put at x) (puts_where chosen (at + 1) (rest ++ back)) (puts_where chosen (at + 1) rest)
    (puts_where chosen (at + suc (length rest)) back)
    (subst (λ (n : ℕ). puts_where chosen (at + 1) (rest ++ back) ≡ puts_where chosen (at + 1) rest ++ puts_where chosen n back) e
    (puts_append chosen (at + 1) rest back))

-- the puts up to the next place, where it is chosen
pub next_put : (chosen : ℕ → Bool) (base : ℕ) (bytes : List ℕ) (i : ℕ) → i < length bytes → chosen (base + i) ≡ true
    → puts_where chosen base (take (i + 1) bytes) ≡ puts_where chosen base (take i bytes) ++ (Put (base + i) (get_or bytes i 0) ∷ [])
next_put chosen base bytes i lt is =
    let here : base + length (take i bytes) ≡ base + i = omega (arith, length-take i bytes) in
    ap (puts_where chosen base) (take_more bytes i 0 lt)
    ∙ (puts_append chosen base (take i bytes) (get_or bytes i 0 ∷ [])
    ∙ ap (λ (n : ℕ). puts_where chosen base (take i bytes) ++ cond (chosen n) (Put n (get_or bytes i 0) ∷ []) []) here
    ∙ ap (λ (z : Bool). puts_where chosen base (take i bytes) ++ cond z (Put (base + i) (get_or bytes i 0) ∷ []) []) is)

-- the puts up to the next place, where it isn't chosen
pub next_passed : (chosen : ℕ → Bool) (base : ℕ) (bytes : List ℕ) (i : ℕ) → i < length bytes → chosen (base + i) ≡ false
    → puts_where chosen base (take (i + 1) bytes) ≡ puts_where chosen base (take i bytes)
next_passed chosen base bytes i lt not =
    let here : base + length (take i bytes) ≡ base + i = omega (arith, length-take i bytes) in
    ap (puts_where chosen base) (take_more bytes i 0 lt)
    ∙ (puts_append chosen base (take i bytes) (get_or bytes i 0 ∷ [])
    ∙ ap (λ (n : ℕ). puts_where chosen base (take i bytes) ++ cond (chosen n) (Put n (get_or bytes i 0) ∷ []) []) here
    ∙ (ap (λ (z : Bool). puts_where chosen base (take i bytes) ++ cond z (Put (base + i) (get_or bytes i 0) ∷ []) []) not
    ∙ append-nil (puts_where chosen base (take i bytes))))

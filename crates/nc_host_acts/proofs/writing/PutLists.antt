-- Lists of puts: one more byte, and how many there are.
use Rattle.std.proofs.Common.{◌≡◌, ℕ, suc, ◌+◌, ◌<◌, ◌≤◌, Bool, true, false, cond, List, [], ◌∷◌, ◌++◌, length, get_or, take, drop, refl, ap}
use Rattle.std.proofs.Common.{arith, sym, subst, ◌∙◌}
use Rattle.std.specs.Prelude.{not}
use Rattle.std.proofs.lemmas.List.{take-append-drop, length-append}
use Rattle.nc_acts.specs.declared.acts.Act.{Act}
use Rattle.nc_acts.specs.declared.acts.Act.TheVariants.{Put}
use Rattle.nc_acts.proofs.Offered.{puts_append, next_put}
use Rattle.nc_acts.specs.Acts.{puts_where}

-- the first bytes have no more puts than all
pub puts_within : (chosen : ℕ → Bool) (at : ℕ) (bytes : List ℕ) (i : ℕ)
    → length (puts_where chosen at (take i bytes)) ≤ length (puts_where chosen at bytes)
puts_within chosen at bytes i =
    let all : puts_where chosen at bytes ≡ puts_where chosen at (take i bytes) ++ puts_where chosen (at + length (take i bytes)) (drop i bytes) =
    sym (ap (puts_where chosen at) (take-append-drop i bytes)) ∙ puts_append chosen at (take i bytes) (drop i bytes) in
    omega (
      arith,
      ap (λ (z : List Act). length z) all,
      length-append (puts_where chosen at (take i bytes)) (puts_where chosen (at + length (take i bytes)) (drop i bytes)),
    )

-- one of two counts grows
counted : (b : Bool) (y z : Act) (p q : List Act) (n : ℕ) → length p + length q ≡ n
    → length (cond b (y ∷ p) p) + length (cond (not b) (z ∷ q) q) ≡ suc n
counted true y z p q n e = omega (arith, e)
counted false y z p q n e = omega (arith, e)

-- each byte is put once, at a place that passes or at one that doesn't
pub puts_of_both : (chosen : ℕ → Bool) (at : ℕ) (bytes : List ℕ)
    → length (puts_where chosen at bytes) + length (puts_where (λ k. not (chosen k)) at bytes) ≡ length bytes
puts_of_both chosen at [] = refl
puts_of_both chosen at (x ∷ rest) =
    counted (chosen at) (Put at x) (Put at x) (puts_where chosen (at + 1) rest) (puts_where (λ k. not (chosen k)) (at + 1) rest) (length rest)
    (puts_of_both chosen (at + 1) rest)

-- two tests that agree on the places choose the same puts
pub puts_same : (f g : ℕ → Bool) (at : ℕ) (bytes : List ℕ) → ((k : ℕ) → k < length bytes → f (at + k) ≡ g (at + k))
    → puts_where f at bytes ≡ puts_where g at bytes
puts_same f g at [] h = refl
puts_same f g at (x ∷ rest) h =
    let here : f at ≡ g at = subst (λ (n : ℕ). f n ≡ g n) {x = at + 0} {y = at} (omega arith) (h 0 (omega arith)) in
    let more : puts_where f (at + 1) rest ≡ puts_where g (at + 1) rest =
    puts_same f g (at + 1) rest (λ k lt. subst (λ (n : ℕ). f n ≡ g n) {x = at + suc k} {y = at + 1 + k} (omega arith) (h (suc k) (omega (arith, lt)))) in
    ap (λ (b : Bool). cond b (Put at x ∷ puts_where f (at + 1) rest) (puts_where f (at + 1) rest)) here
    ∙ ap (λ (z : List Act). cond (g at) (Put at x ∷ z) z) more

-- there is room for the put of a byte at a place that passes
pub put_fits : (chosen : ℕ → Bool) (at : ℕ) (bytes : List ℕ) (i from room : ℕ) → i < length bytes → chosen (at + i) ≡ true
    → from + length (puts_where chosen at bytes) ≤ room → from + length (puts_where chosen at (take i bytes)) < room
put_fits chosen at bytes i from room lt is fits =
    omega (
      arith,
      fits,
      puts_within chosen at bytes (i + 1),
      ap (λ (z : List Act). length z) (next_put chosen at bytes i lt is),
      length-append (puts_where chosen at (take i bytes)) (Put (at + i) (get_or bytes i 0) ∷ []),
    )

-- The bits that comparisons of 32 lanes give.
use Rattle.std.proofs.Common.{◌≡◌, ℕ, ◌%◌, ◌^◌, ◌<◌, Bool, true, false, List, length, get_or, map, replicate, cond, leb, refl, sym}
use Rattle.std.proofs.Common.{subst, ap, ◌∙◌, arith, ◌==◌, w8, nat_le}
use Rattle.std.specs.Int.{bit_at}
use Rattle.std.specs.Simd.Lanes.{zip2, mask_l, top, chunk}
use Rattle.std.proofs.lemmas.Simd.{length-zip2, get_or-zip2, get_or-chunk, bit_mask_l, mask_l-mod, mask_l-lt, tops_compared}
use Rattle.std.proofs.lemmas.List.{length-replicate, get_or-replicate}
use Rattle.nc_decode.specs.declared.automaton.TheConstants.{END}

-- the lanes compared, as a mask
abbrev pub compared : (ℕ → ℕ → Bool) → List ℕ → List ℕ → ℕ
compared t xs ys = mask_l (map (top 7) (zip2 (λ a b. cond (t a b) 255 0) xs ys)) % 2 ^ 64

-- the mask of two lists of lanes is that of the tests of their lanes
compared_is : (t : ℕ → ℕ → Bool) (xs ys : List ℕ) → length xs ≡ 32 → length ys ≡ 32 → (compared t xs ys ≡ mask_l (zip2 t xs ys))
    × (length (zip2 t xs ys) ≡ 32)
compared_is t xs ys p q =
    let long : length (zip2 t xs ys) ≡ 32 = length-zip2 t xs ys (p ∙ sym q) ∙ p in
    (ap (λ (z : List Bool). mask_l z % 2 ^ 64) (tops_compared w8 t xs ys) ∙ mask_l-mod (zip2 t xs ys) 64 (omega (arith, long)), long)

-- the mask of two lists of lanes has 32 bits
compared_small : (t : ℕ → ℕ → Bool) (xs ys : List ℕ) → length xs ≡ 32 → length ys ≡ 32 → compared t xs ys < 2 ^ 32
compared_small t xs ys p q =
    let w = compared_is t xs ys p q in
    let P : ℕ → Type 0 = λ n. mask_l (zip2 t xs ys) < 2 ^ n in
    let lt : mask_l (zip2 t xs ys) < 2 ^ 32 = subst P w.1 (mask_l-lt (zip2 t xs ys)) in
    omega (arith, w.0, lt)

-- a bit that is one where a test holds
is_one : (b : Bool) → (cond {A = ℕ} b 1 0 == 1) ≡ b
is_one true = refl
is_one false = refl

-- each bit of the mask of two lists of lanes is the test of two lanes
compared_bit : (t : ℕ → ℕ → Bool) (xs ys : List ℕ) (k : ℕ) → length xs ≡ 32 → length ys ≡ 32 → k < 32
    → (bit_at (compared t xs ys) k == 1) ≡ t (get_or xs k 0) (get_or ys k 0)
compared_bit t xs ys k p q lt =
    let w = compared_is t xs ys p q in
    ap (λ (m : ℕ). bit_at m k == 1) w.0
    ∙ ap (λ (b : ℕ). b == 1) (bit_mask_l (zip2 t xs ys) k)
    ∙ is_one (get_or (zip2 t xs ys) k false)
    ∙ get_or-zip2 t xs ys k 0 0 false (omega (arith, p, lt)) (omega (arith, q, lt))

-- ---- equal to one state

-- the mask of the lanes that are one state has 32 bits
pub equal_small : (xs : List ℕ) (s : ℕ) → length xs ≡ 32 → compared (λ a b. a == b) xs (replicate 32 s) < 4294967296
equal_small xs s p = omega (arith, compared_small (λ a b. a == b) xs (replicate 32 s) p (length-replicate 32 s))

-- each bit of the mask of the lanes that are one state says whether its lane is
pub equal_bit : (xs : List ℕ) (s k : ℕ) → length xs ≡ 32 → k < 32
    → (bit_at (compared (λ a b. a == b) xs (replicate 32 s)) k == 1) ≡ (get_or xs k 0 == s)
equal_bit xs s k p lt =
    compared_bit (λ a b. a == b) xs (replicate 32 s) k p (length-replicate 32 s) lt
    ∙ ap (λ (x : ℕ). get_or xs k 0 == x) (get_or-replicate 32 k s 0 lt)

-- ---- at least one state

-- the mask of the lanes that are a state after an instruction has 32 bits
pub least_small : (xs : List ℕ) → length xs ≡ 32 → compared (λ a b. leb a b) (replicate 32 END) xs < 4294967296
least_small xs p = omega (arith, compared_small (λ a b. leb a b) (replicate 32 END) xs refl p)

-- each bit of the mask of the lanes that are a state after an instruction says whether its lane is
pub least_bit : (xs : List ℕ) (k : ℕ) → length xs ≡ 32 → k < 32
    → (bit_at (compared (λ a b. leb a b) (replicate 32 END) xs) k == 1) ≡ nat_le END (get_or xs k 0)
least_bit xs k p lt =
    compared_bit (λ a b. leb a b) (replicate 32 END) xs k refl p lt
    ∙ ap (λ (x : ℕ). leb x (get_or xs k 0)) (get_or-replicate 32 k END 0 lt)

-- ---- a load

-- the lanes that are loaded are the list
pub loaded : (xs : List ℕ) (k : ℕ) → k < 32 → get_or (chunk 0 32 xs) k 0 ≡ get_or xs k 0
loaded xs k lt = get_or-chunk 0 32 xs k 0 lt ∙ ap (λ (j : ℕ). get_or xs j 0) (omega arith)

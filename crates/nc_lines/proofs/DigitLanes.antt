-- The values of digits by the arithmetic of lanes.
use Rattle.std.proofs.Common.{◌≡◌, ◌+◌, ◌-◌, ◌*◌, ◌%◌, ◌<◌, ◌≤◌, ◌==◌, ◌||◌, ◌^◌, ℕ, Bool, true, cond, ltb, List, [], ◌∷◌, map, length, replicate, Ok}
use Rattle.std.proofs.Common.{refl, sym, ap, ◌∙◌, arith, w8}
use Rattle.std.proofs.lemmas.Simd.{splat_is_map, tops_compared, zip2_of_maps, zip2_splat}
use lib.Bits.{bit_or}
use lib.Lanes.{zip2, sel_l, top}
use Rattle.hex.specs.Hex.{hex_digit_value, pair_value}
use Rattle.nc_lines.specs.machinery.Digits.{digit_entry, lane_value}
use Rattle.nc_base.proofs.Offered.{each_below, each_below-at}
use Rattle.nc_lines.proofs.DigitValues.{read_pair}

-- the test of one byte: a lane's value up to 15 is the byte's
abbrev is_valued : ℕ → Bool
is_valued c = ltb 15 (lane_value c) || (digit_entry (hex_digit_value c) == lane_value c)

-- all bytes pass the test of their value
all_valued : each_below is_valued 256 ≡ true
all_valued = refl

-- a value up to 15 passed the second part of the test
small_passed : (v e : ℕ) → v ≤ 15 → (ltb 15 v || (e == v)) ≡ true → e ≡ v
small_passed v e small h = grind (arith)

-- a lane's value up to 15 is the byte's as a digit
entry_small : (c : ℕ) → c < 256 → lane_value c ≤ 15 → digit_entry (hex_digit_value c) ≡ lane_value c
entry_small c below small = small_passed (lane_value c) (digit_entry (hex_digit_value c)) small (each_below-at is_valued 256 c all_valued below)

-- two digits by the values of their lanes
pub pair_by_lanes : (high low i : ℕ) → high < 256 → low < 256 → lane_value high ≤ 15 → lane_value low ≤ 15
    → pair_value high low i ≡ Ok (lane_value high * 16 + lane_value low)
pair_by_lanes high low i hb lb hs ls =
    read_pair high low i (lane_value high * 16 + lane_value low) (hex_digit_value high) (hex_digit_value low)
    (sym (ap (λ (n : ℕ). n * 16 + digit_entry (hex_digit_value low)) (entry_small high hb hs) ∙ ap (λ (n : ℕ). lane_value high * 16 + n) (entry_small low lb ls)))
    (omega arith)

-- an operation on a vector that was computed lane by lane and a splat
with_splat : (xs : List ℕ) → length xs ≡ 16 → {Y : Type 0} (op : ℕ → ℕ → Y) (y : ℕ) (f : ℕ → ℕ) {ys : List ℕ} → ys ≡ map f xs
    → zip2 op ys (replicate 16 y) ≡ map (λ x. op (f x) y) xs
with_splat xs long op y f e = zip2_of_maps op f (λ x. y) xs e (splat_is_map xs 16 y long)

-- a choice, lane by lane
sel-maps : {X Y : Type 0} (p : X → Bool) (f g : X → Y) (xs : List X) → sel_l (map p xs) (map f xs) (map g xs) ≡ map (λ x. cond (p x) (f x) (g x)) xs
sel-maps p f g [] = refl
sel-maps p f g (x ∷ xs) = ap (λ l. cond (p x) (f x) (g x) ∷ l) (sel-maps p f g xs)

-- the lanes of ys below y, and those of zs where ys has others
abbrev chosen : ℕ → List ℕ → List ℕ → List ℕ
chosen y ys zs = sel_l (map (top 7) (zip2 (λ a b. cond (ltb a b) 255 0) ys (replicate 16 y))) ys zs

-- a choice between vectors that were computed lane by lane
chosen_of_maps : (xs : List ℕ) → length xs ≡ 16 → (y : ℕ) (f g : ℕ → ℕ) {ys zs : List ℕ} → ys ≡ map f xs → zs ≡ map g xs
    → chosen y ys zs ≡ map (λ x. cond (ltb (f x) y) (f x) (g x)) xs
chosen_of_maps xs long y f g {ys} {zs} ey ez =
    ap (λ ms. sel_l ms ys zs) (tops_compared w8 ltb ys (replicate 16 y) ∙ with_splat xs long ltb y f ey)
    ∙ ap (λ ds. sel_l (map (λ x. ltb (f x) y) xs) ds zs) ey
    ∙ ap (sel_l (map (λ x. ltb (f x) y) xs) (map f xs)) ez
    ∙ sel-maps (λ x. ltb (f x) y) f g xs

-- a lane's sum, difference and product, which wrap
abbrev pub wrapped_add : ℕ → ℕ → ℕ
wrapped_add a b = (a + b) % 2 ^ 8

abbrev pub wrapped_mul : ℕ → ℕ → ℕ
wrapped_mul a b = a * b % 2 ^ 8

abbrev wrapped_sub : ℕ → ℕ → ℕ
wrapped_sub a b = (a + (2 ^ 8 - b)) % 2 ^ 8

-- the letters of a vector, counted from `a`
abbrev letters : List ℕ → List ℕ
letters xs = zip2 wrapped_sub (zip2 bit_or xs (replicate 16 32)) (replicate 16 97)

-- the values of a vector's bytes, as it computes them, are those of its lanes
pub lanes_valued : (xs : List ℕ) → length xs ≡ 16
    → chosen 10 (zip2 wrapped_sub xs (replicate 16 48)) (zip2 wrapped_add (chosen 245 (letters xs) (replicate 16 245)) (replicate 16 10))
    ≡ map lane_value xs
lanes_valued xs long =
    let decimal = zip2_splat wrapped_sub xs 16 48 long in
    let letter = with_splat xs long wrapped_sub 97 (λ x. bit_or x 32) (zip2_splat bit_or xs 16 32 long) in
    let least = chosen_of_maps xs long 245 _ (λ x. 245) letter (splat_is_map xs 16 245 long) in
    chosen_of_maps xs long 10 _ _ decimal (with_splat xs long wrapped_add 10 _ least)

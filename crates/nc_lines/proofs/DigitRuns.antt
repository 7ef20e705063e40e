-- Runs of pairs of digits, decoded by lanes.
use Rattle.std.proofs.Common.{◌≡◌, ◌+◌, ◌-◌, ◌*◌, ◌%◌, ◌^◌, ◌<◌, ◌≤◌, ℕ, zero, suc, Bool, false, cond, ltb, List, [], ◌∷◌, ◌++◌, map, length, take, drop, get_or, replicate, slice_index, Result, Ok, Err}
use Rattle.std.proofs.Common.{refl, sym, ap, ◌∙◌, arith, inl, inr, w8, Fits}
use Rattle.std.specs.List.{range_with_len}
use Rattle.std.proofs.lemmas.Bool.{cases_lt}
use Rattle.std.proofs.lemmas.List.{append_assoc, append-nil, get_or-map, get_or_append_left, get_or-append_right, length-map, take_all, take_more}
use Rattle.std.proofs.lemmas.List.FromFn.{get_or-map-range_with_len}
use Rattle.std.proofs.lemmas.Simd.{get_or-chunk, get_or-replicate, get_or-zip2, length-chunk, length-put_chunk, length-zip2, mask_l-mod, none_from_empty_mask, take_more_put_chunk, tops_compared, zip2_splat_left}
use Rattle.std.proofs.lemmas.Nat.{le_or_l, le_or_r}
use lib.Bits.{bit_or}
use lib.Lanes.{chunk, mask_l, pick_l, put_chunk, top, zip2}
use Rattle.nc_lines.proofs.DigitLanes.{pair_by_lanes, wrapped_add, wrapped_mul}
use Rattle.nc_lines.specs.machinery.Digits.{lane_value, IsDecodedTo}
use Rattle.hex.specs.Hex.{decode_pairs, pair_value, ◌>>=◌}
use Rattle.hex.specs.declared.error.FromHexError.{FromHexError}
use Rattle.hex.proofs.Pairs.{prepend, cons_byte, drop-pair, decode_pairs-ok_pair, prepend-cons_byte, decode_start}

-- the bytes before those of a decoded rest, in the two ways to write it
prepend_is : (front : List ℕ) (r : Result (List ℕ) FromHexError) → (r >>= (λ rest. Ok (front ++ rest))) ≡ prepend front r
prepend_is front (Ok rest) = refl
prepend_is front (Err e) = refl

-- one pair more is decoded
pair_step : (s front : List ℕ) (i v : ℕ) → 2 * i + 1 < length s
    → pair_value (slice_index s (2 * i)) (slice_index s (2 * i + 1)) (2 * i) ≡ Ok v
    → prepend front (decode_pairs (2 * i) (drop (2 * i) s)) ≡ prepend (front ++ v ∷ []) (decode_pairs (2 * (i + 1)) (drop (2 * (i + 1)) s))
pair_step s front i v fits ok =
    let rest : List ℕ = drop (2 * (i + 1)) s in
    let two : 2 * i + 2 ≡ 2 * (i + 1) = omega arith in
    ap (prepend front) (ap (decode_pairs (2 * i)) (drop-pair s i fits) ∙ decode_pairs-ok_pair (2 * i) _ _ v rest ok
    ∙ ap (λ (k : ℕ). cons_byte v (decode_pairs k rest)) two)
    ∙ prepend-cons_byte front v _

-- k pairs more are decoded, where each gives its byte
pairs_step : (s front vs : List ℕ) (n k : ℕ) → k ≤ length vs → 2 * (n + length vs) ≤ length s
    → ((i : ℕ) → i < k → pair_value (slice_index s (2 * (n + i))) (slice_index s (2 * (n + i) + 1)) (2 * (n + i)) ≡ Ok (slice_index vs i))
    → prepend front (decode_pairs (2 * n) (drop (2 * n) s)) ≡ prepend (front ++ take k vs) (decode_pairs (2 * (n + k)) (drop (2 * (n + k)) s))
pairs_step s front vs n zero le fits ok =
    let same : n + 0 ≡ n = omega arith in
    rw (same, append-nil) refl
pairs_step s front vs n (suc k) le fits ok =
    let more : n + k + 1 ≡ n + suc k = omega arith in
    let one : k + 1 ≡ suc k = omega arith in
    pairs_step s front vs n k (omega arith) fits (λ i below. ok i (omega arith))
    ∙ pair_step s (front ++ take k vs) (n + k) (slice_index vs k) (omega arith) (ok k (omega arith))
    ∙ ap (λ (m : ℕ). prepend ((front ++ take k vs) ++ slice_index vs k ∷ []) (decode_pairs (2 * m) (drop (2 * m) s))) more
    ∙ ap (λ (f : List ℕ). prepend f (decode_pairs (2 * (n + suc k)) (drop (2 * (n + suc k)) s)))
    (append_assoc front (take k vs) (slice_index vs k ∷ []) ∙ ap (λ (l : List ℕ). front ++ l) (sym (take_more vs k 0 (omega arith)) ∙ ap (λ (m : ℕ). take m vs) one))

-- ---- the lanes of a run

-- the places of a pair's digits, in a run
abbrev pub even : ℕ → ℕ
even i = 2 * i

abbrev pub odd : ℕ → ℕ
odd i = 2 * i + 1

-- the values of the bytes at some places of a run, which begins at a
abbrev pub ValuesAt : List ℕ → ℕ → (ℕ → ℕ) → List ℕ → Type 0
ValuesAt s a place values = values ≡ map lane_value (pick_l 0 (chunk a 16 s ++ chunk (a + 16) 16 s) (map place (range_with_len 0 16)))

-- two vectors that stand one after the other in a list
get_or-two_chunks : (s : List ℕ) (a k : ℕ) → a + 32 ≤ length s → k < 32 → get_or (chunk a 16 s ++ chunk (a + 16) 16 s) k 0 ≡ get_or s (a + k) 0
get_or-two_chunks s a k fits below =
    let long : length (chunk a 16 s) ≡ 16 = length-chunk a 16 s (omega arith) in
    elim (cases_lt k 16) [
      | inl first ↦ get_or_append_left (chunk a 16 s) (chunk (a + 16) 16 s) 0 k (omega arith) ∙ get_or-chunk a 16 s k 0 first
      | inr second ↦
          let at : a + 16 + (k - 16) ≡ a + k = omega arith in
          get_or-append_right (chunk a 16 s) (chunk (a + 16) 16 s) 16 k 0 long second
          ∙ get_or-chunk (a + 16) 16 s (k - 16) 0 (omega arith) ∙ ap (λ (m : ℕ). get_or s m 0) at
    ]

-- the value picked for a place of a run is that of the byte there
picked_value : (s : List ℕ) (a i : ℕ) (place : ℕ → ℕ) {values : List ℕ} → a + 32 ≤ length s → i < 16 → place i < 32
    → ValuesAt s a place values → get_or values i 0 ≡ lane_value (get_or s (a + place i) 0)
picked_value s a i place {values} fits below within e =
    let both = chunk a 16 s ++ chunk (a + 16) 16 s in
    let places = map place (range_with_len 0 16) in
    ap (λ (l : List ℕ). get_or l i 0) e
    ∙ get_or-map lane_value (pick_l 0 both places) i 0 0 below
    ∙ ap lane_value (get_or-map (λ k. get_or both k 0) places i 0 0 below
    ∙ ap (λ (k : ℕ). get_or both k 0) (get_or-map-range_with_len place 0 16 i i 0 below (omega arith))
    ∙ get_or-two_chunks s a (place i) fits within)

-- no lane is above 15, by the mask of a comparison
abbrev pub NoneAbove : List ℕ → Type 0
NoneAbove xs = mask_l (map (top 7) (zip2 (λ a b. cond (ltb a b) 255 0) (replicate 16 15) xs)) % 2 ^ 64 ≡ 0

-- a number that isn't above 15
not_above : (x : ℕ) → ltb 15 x ≡ false → x ≤ 15
not_above x e = grind (arith)

-- where no lane is above 15, the i-th isn't
none_above : (xs : List ℕ) (i : ℕ) → length xs ≡ 16 → i < 16 → NoneAbove xs → get_or xs i 0 ≤ 15
none_above xs i long below e =
    let is_above : ℕ → Bool = λ x. ltb 15 x in
    let wide : length (map is_above xs) ≡ 16 = length-map xs is_above ∙ long in
    let none : mask_l (map is_above (chunk 0 16 xs)) ≡ 0 =
    ap (λ (l : List ℕ). mask_l (map is_above l)) (take_all 16 xs (omega arith))
    ∙ sym (mask_l-mod (map is_above xs) 64 (omega arith))
    ∙ sym (ap (λ (l : List Bool). mask_l l % 2 ^ 64) (tops_compared w8 ltb (replicate 16 15) xs ∙ zip2_splat_left ltb 15 16 xs long))
    ∙ e in
    not_above (get_or xs i 0) (none_from_empty_mask is_above xs 0 16 0 (omega arith) none i (omega arith) (omega arith))

-- the bytes of pairs of values
abbrev pub combined : List ℕ → List ℕ → List ℕ
combined highs lows = zip2 wrapped_add (zip2 wrapped_mul highs (replicate 16 16)) lows

-- the byte of a pair of values up to 15
combined_at : (highs lows : List ℕ) (i h l : ℕ) → length highs ≡ 16 → length lows ≡ 16 → i < 16
    → get_or highs i 0 ≡ h → get_or lows i 0 ≡ l → h ≤ 15 → l ≤ 15 → get_or (combined highs lows) i 0 ≡ h * 16 + l
combined_at highs lows i h l hlong llong below eh el hs ls =
    let raised = length-zip2 wrapped_mul highs (replicate 16 16) hlong in
    get_or-zip2 wrapped_add (zip2 wrapped_mul highs (replicate 16 16)) lows i 0 0 0 (omega (arith, raised)) (omega arith)
    ∙ ap (λ (m : ℕ). wrapped_add m (get_or lows i 0)) (get_or-zip2 wrapped_mul highs (replicate 16 16) i 0 0 0 (omega arith) below
    ∙ ap (wrapped_mul (get_or highs i 0)) (get_or-replicate 16 i 16 0 below))
    ∙ omega arith

-- a pair's values are up to 15, where no union of two is above it
run_small : (highs lows : List ℕ) (i : ℕ) → length highs ≡ 16 → length lows ≡ 16 → i < 16 → NoneAbove (zip2 bit_or highs lows)
    → (get_or highs i 0 ≤ 15) × (get_or lows i 0 ≤ 15)
run_small highs lows i hlong llong below e =
    let long = length-zip2 bit_or highs lows (hlong ∙ sym llong) ∙ hlong in
    let union = get_or-zip2 bit_or highs lows i 0 0 0 (omega arith) (omega arith) in
    let small = none_above (zip2 bit_or highs lows) i long below e in
    let left = le_or_l (get_or highs i 0) (get_or lows i 0) in
    let right = le_or_r (get_or highs i 0) (get_or lows i 0) in
    (omega (arith, union, small, left), omega (arith, union, small, right))

-- the i-th pair of a run gives the byte of its lane
run_pair : (s highs lows : List ℕ) (n i : ℕ) → ((k : ℕ) → Fits w8 (get_or s k 0)) → 2 * n + 32 ≤ length s → i < 16
    → ValuesAt s (2 * n) even highs → ValuesAt s (2 * n) odd lows → NoneAbove (zip2 bit_or highs lows)
    → pair_value (slice_index s (2 * (n + i))) (slice_index s (2 * (n + i) + 1)) (2 * (n + i)) ≡ Ok (get_or (combined highs lows) i 0)
run_pair s highs lows n i bytes fits below eh el good =
    let hlong : length highs ≡ 16 = ap length eh in
    let llong : length lows ≡ 16 = ap length el in
    let small = run_small highs lows i hlong llong below good in
    let first : 2 * n + 2 * i ≡ 2 * (n + i) = omega arith in
    let second : 2 * n + (2 * i + 1) ≡ 2 * (n + i) + 1 = omega arith in
    let high = picked_value s (2 * n) i even fits below (omega arith) eh ∙ ap (λ (k : ℕ). lane_value (get_or s k 0)) first in
    let low = picked_value s (2 * n) i odd fits below (omega arith) el ∙ ap (λ (k : ℕ). lane_value (get_or s k 0)) second in
    let a = get_or s (2 * (n + i)) 0 in
    let b = get_or s (2 * (n + i) + 1) 0 in
    let hs : lane_value a ≤ 15 = omega (arith, high, small.0) in
    let ls : lane_value b ≤ 15 = omega (arith, low, small.1) in
    pair_by_lanes a b (2 * (n + i)) (bytes (2 * (n + i))).fits (bytes (2 * (n + i) + 1)).fits hs ls
    ∙ ap Ok (sym (combined_at highs lows i _ _ hlong llong below high low hs ls))

-- a run more is decoded
pub run_decoded : (s out highs lows : List ℕ) (n : ℕ) → ((k : ℕ) → Fits w8 (get_or s k 0)) → length s ≡ 2 * length out → n + 16 ≤ length out
    → ValuesAt s (2 * n) even highs → ValuesAt s (2 * n) odd lows → NoneAbove (zip2 bit_or highs lows)
    → IsDecodedTo s out n → IsDecodedTo s (put_chunk n out (combined highs lows)) (n + 16)
run_decoded s out highs lows n bytes twice room eh el good before =
    let vs = combined highs lows in
    let llong : length lows ≡ 16 = ap length el in
    let raised = length-zip2 wrapped_mul highs (replicate 16 16) (ap length eh) ∙ ap length eh in
    let long : length vs ≡ 16 = length-zip2 wrapped_add (zip2 wrapped_mul highs (replicate 16 16)) lows (raised ∙ sym llong) ∙ raised in
    let kept = length-put_chunk n out vs in
    let front : take n out ++ take 16 vs ≡ take (n + 16) (put_chunk n out vs) =
    ap (λ (l : List ℕ). take n out ++ l) (take_all 16 vs (omega arith)) ∙ sym (take_more_put_chunk n out vs (n + 16) (omega arith) room) in
    record {
      within = omega arith;
      rest =
          before.rest ∙ prepend_is (take n out) _
          ∙ pairs_step s (take n out) vs n 16 (omega arith) (omega arith) (λ i below. run_pair s highs lows n i bytes (omega arith) below eh el good)
          ∙ ap (λ (f : List ℕ). prepend f (decode_pairs (2 * (n + 16)) (drop (2 * (n + 16)) s))) front
          ∙ sym (prepend_is (take (n + 16) (put_chunk n out vs)) _);
    }

-- nothing is decoded yet
pub none_decoded : (s out : List ℕ) → IsDecodedTo s out 0
none_decoded s out = record { within = omega arith; rest = decode_start s out ∙ sym (prepend_is (take 0 out) _) }

-- The states after the bytes of bundles, one by one.
use Rattle.std.proofs.Common.{◌≡◌, ◌≢◌, ℕ, zero, suc, ◌+◌, ◌-◌, ◌*◌, ◌/◌, ◌%◌, ◌^◌, ◌<◌, ◌≤◌, Bool, true, false, List, [], ◌∷◌, ◌++◌}
use Rattle.std.proofs.Common.{length, take, drop, get_or, refl, sym, subst, ◌∙◌, ap, arith, inl, inr, ◌==◌, eqb-true, eq-eqb}
use Rattle.std.proofs.Common.{leb-true}
use Rattle.std.specs.Prelude.{slice_index}
use Rattle.std.specs.Int.{bit_at, w32, leading_zeros}
use Rattle.std.specs.Int.Count.{leading_of_zero}
use Rattle.std.proofs.lemmas.Nat.{leading_top}
use Rattle.std.proofs.Math.Nat.{div-eq_of_lt-le, pow-succ'}
use Rattle.std.proofs.lemmas.Bool.{cases_lt, eqb-false}
use Rattle.std.proofs.lemmas.List.{length-drop, length-take-le, take_more, get_or-take, get_or-drop, length-take}
use Rattle.std.proofs.lemmas.List.{get_or_append_left, get_or-append_right, length-append}
use Rattle.nc_decode.specs.declared.automaton.TheConstants.{END}
use Rattle.nc_decode.specs.Automaton.{next_state}
use Rattle.nc_base.proofs.Offered.{true_or_false}
use Rattle.nc_decode.specs.declared.bundle.Bundle.{Bundle}
use Rattle.nc_decode.specs.Bits.{no_bits}
use Rattle.nc_vet.specs.machinery.Running.{run, state_after, state_before, entered, TellsBundle, AreTold, EndsFront}

-- a run over some bytes and one more leads to the next state by that byte
run_more : (s : ℕ) (bs : List ℕ) (b : ℕ) → run s (bs ++ b ∷ []) ≡ next_state (run s bs) b
run_more s [] b = refl
run_more s (c ∷ bs) b = run_more (next_state s c) bs b

-- the run before a place is the state there
run_before : (code : List ℕ) (k : ℕ) → run END (take (k % 32) (drop (k - k % 32) code)) ≡ state_before (state_after code) k
unfolding state_after
run_before code k = elim (true_or_false (k % 32 == 0)) [
  | inl first ↦ rw first (ap (λ (n : ℕ). run END (take n (drop (k - k % 32) code))) {y = 0} (eqb-true _ 0 first))
  | inr inner ↦
      (let some : k % 32 ≢ 0 = eqb-false _ 0 inner in
      rw inner
      (ap (λ (n : ℕ). run END (take n (drop (k - k % 32) code))) {y = (k - 1) % 32 + 1} (omega (arith, some))
      ∙ ap (λ (n : ℕ). run END (take ((k - 1) % 32 + 1) (drop n code))) {x = k - k % 32} {y = k - 1 - (k - 1) % 32} (omega (arith, some))))
]

-- the state after a byte is the next one of the state before it
pub state_next : (code : List ℕ) (k : ℕ) → k < length code → state_after code k ≡ next_state (state_before (state_after code) k)
    (get_or code k 0)
unfolding state_after
state_next code k lt =
    let rest : List ℕ = drop (k - k % 32) code in
    let in_rest : k % 32 < length (drop (k - k % 32) code) = omega (arith, length-drop (k - k % 32) code, lt) in
    ap (λ (z : List ℕ). run END z) (take_more (drop (k - k % 32) code) (k % 32) 0 in_rest)
    ∙ run_more END (take (k % 32) (drop (k - k % 32) code)) (get_or (drop (k - k % 32) code) (k % 32) 0)
    ∙ ap (λ (s : ℕ). next_state s (get_or (drop (k - k % 32) code) (k % 32) 0)) (run_before code k)
    ∙ ap (λ (b : ℕ). next_state (state_before (state_after code) k) b)
    (get_or-drop (k - k % 32) code (k % 32) 0 ∙ ap (λ (j : ℕ). get_or code j 0) (omega arith))

-- ---- a lane

-- the state that a lane has is the one before its next byte
pub entered_before : (code : List ℕ) (at i : ℕ) → at % 32 ≡ 0 → i < 32 → entered code at i ≡ state_before (state_after code) (at + i)
entered_before code at i start lt = elim (true_or_false (i == 0)) [
  | inl first ↦
      (let is : (at + i) % 32 ≡ 0 = omega (arith, start, eqb-true i 0 first) in
      rw (first, is) refl)
  | inr inner ↦
      (let some : i ≢ 0 = eqb-false i 0 inner in
      let other : ((at + i) % 32 == 0) ≡ false = not_zero ((at + i) % 32) (λ e. some (omega (arith, e, start, lt))) in
      rw (inner, other) refl)
]
  where
    not_zero : (n : ℕ) → n ≢ 0 → (n == 0) ≡ false
    not_zero n h = go (n == 0) refl
      where
        go : (b : Bool) → (n == 0) ≡ b → b ≡ false
        go true e = absurd (h (eqb-true n 0 e))
        go false e = refl

-- the state after a byte is the one that a lane has then
pub entered_some : (code : List ℕ) (at i : ℕ) → 0 < i → entered code at i ≡ state_after code (at + i - 1)
entered_some code at i some = elim (true_or_false (i == 0)) [
  | inl none ↦ absurd (omega (arith, some, eqb-true i 0 none))
  | inr other ↦ rw other refl
]

-- a bundle told at a place is told at an equal place
pub moved : (code : List ℕ) (j k : ℕ) (w : Bundle) → j ≡ k → TellsBundle code j w → TellsBundle code k w
moved code j k w e i = subst (λ (m : ℕ). TellsBundle code m w) e i

-- four bundles, of which those in the code are looked at
pub four_told : (code : List ℕ) (at : ℕ) (v w x y : Bundle) → TellsBundle code at v
    → (at + 32 < length code → TellsBundle code (at + 32) w) → (at + 64 < length code → TellsBundle code (at + 64) x)
    → (at + 96 < length code → TellsBundle code (at + 96) y)
    → (n : ℕ) → n < 4 → at + 32 * n < length code → TellsBundle code (at + 32 * n) (get_or (v ∷ w ∷ x ∷ y ∷ []) n no_bits)
four_told code at v w x y p q r s zero lt in_code = moved code at (at + 32 * zero) v (omega arith) p
four_told code at v w x y p q r s (suc zero) lt in_code = moved code (at + 32) (at + 32 * suc zero) w (omega arith)
    (q (omega (arith, in_code)))
four_told code at v w x y p q r s (suc (suc zero)) lt in_code = moved code (at + 64) (at + 32 * suc (suc zero)) x (omega arith)
    (r (omega (arith, in_code)))
four_told code at v w x y p q r s (suc (suc (suc zero))) lt in_code = moved code (at + 96) (at + 32 * suc (suc (suc zero))) y
    (omega arith) (s (omega (arith, in_code)))
four_told code at v w x y p q r s (suc (suc (suc (suc n)))) lt in_code = absurd (omega (arith, lt))

-- ---- all bundles

-- an instruction ends with a bundle whose last bit says so
whole_told : (code : List ℕ) (at : ℕ) (w : Bundle) → TellsBundle code at w → bit_at w.ends 31 ≡ 1 → END ≤ state_after code (at + 31)
whole_told code at w t last = leb-true END (state_after code (at + 31)) (sym (t.ends 31 (omega arith)) ∙ eq-eqb (bit_at w.ends 31) 1 last)

-- more bundles after those that were read, of which the first are whole
pub told_more : (code : List ℕ) (bundles more items : List Bundle) (count : ℕ) → AreTold code bundles → items ≡ bundles ++ take count more
    → count ≤ length more
    → ((n : ℕ) → n < count → TellsBundle code (32 * length bundles + 32 * n) (get_or more n no_bits))
    → ((n : ℕ) → n < count → bit_at (get_or more n no_bits).ends 31 ≡ 1)
    → AreTold code items × (length items ≡ length bundles + count)
told_more code bundles more items count t is le f whole = (
  subst (λ (z : List Bundle). AreTold code z) (sym is) all,
  ap (λ (z : List Bundle). length z) is
      ∙ length-append bundles (take count more) ∙ ap (λ (n : ℕ). length bundles + n) long,
)
  where
    long : length (take count more) ≡ count
    long = length-take-le count more le

    all : AreTold code (bundles ++ take count more)
    all n lt = elim (cases_lt n (length bundles)) [
      | inl earlier ↦ subst (λ (w : Bundle). TellsBundle code (32 * n) w × (END ≤ state_after code (32 * n + 31)))
          (sym (get_or_append_left bundles (take count more) no_bits n earlier)) (t n earlier)
      | inr later ↦
          (let m : ℕ = n - length bundles in
          let m-lt : n - length bundles < count = omega (arith, later, lt, long, length-append bundles (take count more)) in
          let here : 32 * length bundles + 32 * (n - length bundles) ≡ 32 * n = omega (arith, later) in
          let word : get_or (bundles ++ take count more) n no_bits ≡ get_or more (n - length bundles) no_bits =
          get_or-append_right bundles (take count more) (length bundles) n no_bits refl later
          ∙ get_or-take count more (n - length bundles) no_bits m-lt in
          let tells = moved code (32 * length bundles + 32 * (n - length bundles)) (32 * n)
          (get_or more (n - length bundles) no_bits) here (f (n - length bundles) m-lt) in
          subst (λ (w : Bundle). TellsBundle code (32 * n) w × (END ≤ state_after code (32 * n + 31))) (sym word)
          (tells, whole_told code (32 * n) (get_or more (n - length bundles) no_bits) tells (whole (n - length bundles) m-lt)))
    ]

-- the bundles that were read are told, and so are the whole ones at the front of the next four, of which `few` are in the code
pub told_few : (code : List ℕ) (bundles more items : List Bundle) (at few count : ℕ) → AreTold code bundles → length more ≡ 4 → few ≤ 4
    → at ≡ 32 * length bundles → at + 32 * few ≤ length code
    → ((n : ℕ) → n < 4 → at + 32 * n < length code → TellsBundle code (at + 32 * n) (get_or more n no_bits))
    → items ≡ bundles ++ take count more → count ≤ length (take few more)
    → ((n : ℕ) → n < count → bit_at (get_or (take few more) n no_bits).ends 31 ≡ 1)
    → (AreTold code items × (length items ≡ length bundles + count)) × (count ≤ few)
told_few code bundles more items at few count t four small here room f is within whole =
    let le : count ≤ few = omega (arith, within, length-take few more) in (
      told_more code bundles more items count t is (omega (arith, le, small, four))
          (λ n lt. moved code (at + 32 * n) (32 * length bundles + 32 * n) (get_or more n no_bits) (omega (arith, here))
          (f n (omega (arith, lt, le, small)) (omega (arith, lt, le, room))))
          (λ n lt. ap (λ (b : Bundle). bit_at b.ends 31) (sym (get_or-take few more n no_bits (omega (arith, lt, le)))) ∙ whole n lt),
      le,
    )

-- the bundles that were read, and one more that is whole, are told
pub told_next : (code : List ℕ) (bundles items : List Bundle) (w : Bundle) → AreTold code bundles → items ≡ bundles ++ w ∷ []
    → TellsBundle code (32 * length bundles) w → bit_at w.ends 31 ≡ 1 → AreTold code items × (length items ≡ length bundles + 1)
told_next code bundles items w t is tells last = told_more code bundles (w ∷ []) items 1 t is (omega arith) told whole
  where
    told : (n : ℕ) → n < 1 → TellsBundle code (32 * length bundles + 32 * n) (get_or (w ∷ []) n no_bits)
    told zero lt = moved code (32 * length bundles) (32 * length bundles + 32 * zero) w (omega arith) tells
    told (suc n) lt = absurd (omega (arith, lt))

    whole : (n : ℕ) → n < 1 → bit_at (get_or (w ∷ []) n no_bits).ends 31 ≡ 1
    whole zero lt = last
    whole (suc n) lt = absurd (omega (arith, lt))

-- where the last bundle of the code is read and whole, all of the code has been read
pub told_last : (code : List ℕ) (bundles items : List Bundle) (w : Bundle) → AreTold code bundles → items ≡ bundles ++ w ∷ []
    → TellsBundle code (32 * length bundles) w → bit_at w.ends 31 ≡ 1 → 32 * length bundles + 32 ≡ length code
    → EndsFront code items (length code)
told_last code bundles items w t is tells last len =
    let all = told_next code bundles items w t is tells last in
    record {
      told = all.0;
      low = omega (arith, all.1, len);
      near = omega (arith, all.1, len);
      high = omega arith;
      ended = λ later. absurd (omega (arith, later, all.1, len));
    }

-- where reading stops in a bundle
pub stopped : (code : List ℕ) (bundles : List Bundle) (w : Bundle) (at end : ℕ) → AreTold code bundles → at ≡ 32 * length bundles
    → at + 32 ≤ length code → TellsBundle code at w → at ≤ end → end ≤ at + 32
    → (at < end → (bit_at w.ends (end - at - 1) ≡ 1) × (slice_index code (end - 1) ≢ 0xE0)) → EndsFront code bundles end
stopped code bundles w at end told here room t low near ended = record {
  told = told;
  low = omega (arith, here, low);
  near = omega (arith, here, near);
  high = omega (arith, near, room);
  ended = λ later. (
      let e = ended (omega (arith, later, here)) in
      let k-lt : end - at - 1 < 32 = omega (arith, near, later, here) in (
        subst (λ (k : ℕ). END ≤ state_after code k) {x = at + (end - at - 1)} {y = end - 1} (omega (arith, later, here, low))
            (leb-true END (state_after code (at + (end - at - 1)))
            (sym (t.ends (end - at - 1) k-lt) ∙ eq-eqb (bit_at w.ends (end - at - 1)) 1 e.0)),
        e.1,
      ));
}

-- the bit below the leading zeros of a number is set
pub top_bit : (n len : ℕ) → n < 2 ^ 32 → len + leading_zeros w32 n ≡ 32 → len ≢ 0 → bit_at n (len - 1) ≡ 1
top_bit zero len fits is some = absurd (some (omega (arith, is, leading_of_zero 32)))
top_bit (suc m) len fits is some =
    let top = leading_top 32 (suc m) (omega arith) fits in
    let place : top.0 ≡ len - 1 = omega (arith, top.1, is) in
    let one_is : suc m / 2 ^ top.0 ≡ 1 = div-eq_of_lt-le {k = 1} (2 ^ top.0) {m = suc m} (omega (arith, top.2))
    (omega (arith, top.3, pow-succ' 2 top.0)) in
    ap (λ (k : ℕ). bit_at (suc m) k) (sym place) ∙ ap (λ (k : ℕ). k % 2) one_is

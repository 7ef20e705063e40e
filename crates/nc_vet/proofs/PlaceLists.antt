-- Lists of the places at which direct transfers end.
use Rattle.std.proofs.Common.{◌≡◌, ◌≢◌, ℕ, ◌+◌, ◌-◌, ◌*◌, ◌/◌, ◌%◌, ◌<◌, ◌≤◌, List, length, get_or, set, replicate, zero, suc, refl, sym, subst, ◌∙◌, ap, arith, inl, inr, ◌⊎◌}
use Rattle.std.proofs.Common.{bit_or, count_ones}
use Rattle.std.specs.Int.{bit_at}
use Rattle.std.proofs.lemmas.Bool.{cases_lt, cases_eq}
use Rattle.std.proofs.lemmas.List.{get_or-set_same, get_or-set_other}
use Rattle.std.proofs.lemmas.Nat.{zero_from_ones, ones_le_self}
use Rattle.std.proofs.lemmas.Nat.Bits.{bit_at-zero, bit_at-lt, bit_at_or}
use Rattle.nc_decode.specs.declared.bundle.Bundle.{Bundle}
use Rattle.nc_decode.specs.Bits.{no_bits}
use Rattle.nc_vet.specs.machinery.Judged.{IsGoodEnd, AreJudged}
use Rattle.nc_vet.specs.machinery.Lists.{IsListed, AreBelow, HasAdded, AreListed, AreEndsApart}

-- zeros are below a bound
pub zeros_below : (n bound : ℕ) → 0 < bound → AreBelow bound (replicate n 0)
zeros_below zero bound some i = some
zeros_below (suc n) bound some zero = some
zeros_below (suc n) bound some (suc i) = zeros_below n bound some i

-- at first all bits are left
pub none_added : (list : List ℕ) (start from bits : ℕ) → HasAdded list list start from bits 0 bits
none_added list start from bits =
    record { each = λ k lt set. inl set; fewer = omega arith; kept = λ i lt. refl; small = λ bound le all. all }

-- some bit is set unless the word is 0
pub some_ones : (n : ℕ) → (n ≡ 0 → ⊥) → 0 < count_ones n
some_ones n other = elim (cases_lt 0 (count_ones n)) [
  | inl some ↦ some
  | inr none ↦ absurd (other (zero_from_ones n (omega (arith, none))))
]

-- a word in which a bit is set has at least one set bit
some_set : (n k : ℕ) → bit_at n k ≡ 1 → 0 < count_ones n
some_set n k set = some_ones n (λ is.
    (let f : 0 ≡ 1 = sym (bit_at-zero k) ∙ ap (λ (m : ℕ). bit_at m k) (sym is) ∙ set in omega (arith, f)))

-- the place of one of the bits that are left is added
pub one_added : (old new : List ℕ) (start from bits done next left rest at index : ℕ) → index ≡ start + done → next ≡ done + 1
    → index < length new → at < 64 → ((i : ℕ) → i < 64 → bit_at left i ≡ 1 → i ≢ at → bit_at rest i ≡ 1)
    → count_ones rest ≡ count_ones left - 1 → HasAdded old new start from bits done left
    → HasAdded old (set new index (from + at)) start from bits next rest
one_added old new start from bits done next left rest at index there more room low others fewer h = record {
  each = λ k lt set. elim (h.each k lt set) [
    | inl here ↦ elim (cases_eq k at) [
      | inl is ↦ inr (record {
        index = index;
        after = omega (arith, there);
        before = omega (arith, some_set left k here, h.fewer, there, more);
        is = get_or-set_same new index (from + at) 0 room ∙ ap (λ (i : ℕ). from + i) (sym is);
      })
      | inr other ↦ inl (others k lt here other)
    ]
    | inr listed ↦ inr (record {
      index = listed.index;
      after = listed.after;
      before = omega (arith, listed.before, more);
      is = get_or-set_other new index listed.index (from + at) 0 (λ e. omega (arith, e, listed.before, there)) ∙ listed.is;
    })
  ];
  fewer = omega (arith, fewer, h.fewer, more);
  kept = λ i lt. get_or-set_other new index i (from + at) 0 (λ e. omega (arith, e, lt, there)) ∙ h.kept i lt;
  small = λ bound le all i. elim (cases_eq i index) [
    | inl is ↦
        subst (λ (j : ℕ). get_or (set new index (from + at)) j 0 < bound) (sym is)
        (omega (arith, get_or-set_same new index (from + at) 0 room, le, low))
    | inr other ↦ omega (arith, get_or-set_other new index i (from + at) 0 other, h.small bound le all i)
  ];
}

-- where no bit is left, as many places are added as bits were set
pub all_added : (old new : List ℕ) (start from bits done : ℕ) → HasAdded old new start from bits done 0
    → HasAdded old new start from bits (count_ones bits) 0
all_added old new start from bits done h = record {
  each = λ k lt set. elim (h.each k lt set) [
    | inl here ↦ absurd (let f : 0 ≡ 1 = sym (bit_at-zero k) ∙ here in omega (arith, f))
    | inr listed ↦ inr (record { index = listed.index; after = listed.after; before = omega (arith, listed.before); is = listed.is })
  ];
  fewer = omega (arith, zero_ones);
  kept = h.kept;
  small = h.small;
}
  where
    zero_ones : count_ones 0 ≡ 0
    zero_ones = omega (arith, ones_le_self 0)

-- a bit of either word is a bit of both together
set_in_either : (a b k : ℕ) → (bit_at a k ≡ 1) ⊎ (bit_at b k ≡ 1) → bit_at (bit_or a b) k ≡ 1
set_in_either a b k (inl set) = omega (arith, bit_at_or a b k, set, bit_at-lt b k)
set_in_either a b k (inr set) = omega (arith, bit_at_or a b k, set, bit_at-lt a k)

-- the transfers of two more bundles are listed
pub listed_two : (bundles : List Bundle) (old new : List ℕ) (count start n bits : ℕ)
    → ((k : ℕ) → k < 32 → bit_at bits k ≡ bit_at (bit_or (get_or bundles n no_bits).shorts (get_or bundles n no_bits).nears) k)
    → ((k : ℕ) → k < 32 → bit_at bits (32 + k)
    ≡ bit_at (bit_or (get_or bundles (n + 1) no_bits).shorts (get_or bundles (n + 1) no_bits).nears) k)
    → HasAdded old new count (32 * n) bits (count_ones bits) 0 → AreListed bundles old count start n
    → AreListed bundles new (count + count_ones bits) start (n + 2)
listed_two bundles old new count start n bits first second h all m k ge lt k-lt either = elim (cases_lt m n) [
  | inl earlier ↦
      (let listed = all m k ge earlier k-lt either in
      record {
        index = listed.index;
        after = omega arith;
        before = omega (arith, listed.before);
        is = h.kept listed.index listed.before ∙ listed.is;
      })
  | inr later ↦ elim (cases_lt n m) [
    | inl after ↦
        (let is : m ≡ n + 1 = omega (arith, after, lt) in
        let set = set_in_either _ _ k (subst (λ (i : ℕ). (bit_at (get_or bundles i no_bits).shorts k ≡ 1) ⊎ (bit_at (get_or bundles i no_bits).nears k ≡ 1)) is either) in
        subst (λ (x : ℕ). IsListed new 0 (count + count_ones bits) x) {x = 32 * n + (32 + k)} {y = 32 * m + k} (omega (arith, is))
        (added (32 + k) (omega (arith, k-lt)) (second k k-lt ∙ set)))
    | inr here ↦
        (let is : m ≡ n = omega (arith, later, here) in
        let set = set_in_either _ _ k (subst (λ (i : ℕ). (bit_at (get_or bundles i no_bits).shorts k ≡ 1) ⊎ (bit_at (get_or bundles i no_bits).nears k ≡ 1)) is either) in
        subst (λ (x : ℕ). IsListed new 0 (count + count_ones bits) x) {x = 32 * n + k} {y = 32 * m + k} (omega (arith, is))
        (added k (omega (arith, k-lt)) (first k k-lt ∙ set)))
  ]
]
  where
    added : (i : ℕ) → i < 64 → bit_at bits i ≡ 1 → IsListed new 0 (count + count_ones bits) (32 * n + i)
    added i i-lt set = elim (h.each i i-lt set) [
      | inl none ↦ absurd (let f : 0 ≡ 1 = sym (bit_at-zero i) ∙ none in omega (arith, f))
      | inr listed ↦ record { index = listed.index; after = omega arith; before = omega (arith, listed.before); is = listed.is }
    ]

-- bundles whose transfers are listed are judged by the entries
pub judged_by : (base limit : ℕ) (code : List ℕ) (bundles : List Bundle) (list : List ℕ) (count start end : ℕ) → end ≤ length bundles
    → AreEndsApart bundles → AreListed bundles list count start end
    → ((i : ℕ) → i < count → IsGoodEnd base limit code bundles (get_or list i 0)) → AreJudged base limit code bundles start
    → AreJudged base limit code bundles end
judged_by base limit code bundles list count start end within apart listed good judged n lt = elim (cases_lt n start) [
  | inl earlier ↦ judged n earlier
  | inr later ↦ record {
    shorts = λ k k-lt set.
        (at k k-lt (inl set) later).short
        (ap (λ (m : ℕ). bit_at (get_or bundles m no_bits).nears ((32 * n + k) % 32)) {x = (32 * n + k) / 32} {y = n} (omega (arith, k-lt))
        ∙ ap (λ (j : ℕ). bit_at (get_or bundles n no_bits).nears j) {x = (32 * n + k) % 32} {y = k} (omega (arith, k-lt))
        ∙ apart n k (omega (arith, lt, within)) k-lt set);
    nears = λ k k-lt set.
        (at k k-lt (inr set) later).near
        (ap (λ (m : ℕ). bit_at (get_or bundles m no_bits).nears ((32 * n + k) % 32)) {x = (32 * n + k) / 32} {y = n} (omega (arith, k-lt))
        ∙ ap (λ (j : ℕ). bit_at (get_or bundles n no_bits).nears j) {x = (32 * n + k) % 32} {y = k} (omega (arith, k-lt)) ∙ set);
  }
]
  where
    at : (k : ℕ) → k < 32 → (bit_at (get_or bundles n no_bits).shorts k ≡ 1) ⊎ (bit_at (get_or bundles n no_bits).nears k ≡ 1) → start ≤ n
        → IsGoodEnd base limit code bundles (32 * n + k)
    at k k-lt either later =
        let entry = listed n k later lt k-lt either in
        subst (λ (x : ℕ). IsGoodEnd base limit code bundles x) entry.is (good entry.index entry.before)

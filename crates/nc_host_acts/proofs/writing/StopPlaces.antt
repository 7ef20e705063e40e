-- Stops written for the places of a bundle whose bits are set, and for one bundle after others.
use Rattle.std.proofs.Common.{◌≡◌, ◌≢◌, ℕ, ◌+◌, ◌*◌, ◌-◌, ◌==◌, ◌<◌, ◌≤◌, Bool, true, List, ◌++◌, length, set, take}
use Rattle.std.proofs.Common.{replicate, inl, inr, refl, ap, arith, sym, subst, ◌∙◌}
use Rattle.std.specs.Int.{bit_at}
use Rattle.std.proofs.lemmas.Bool.{cases_lt, cases_eq}
use Rattle.std.proofs.lemmas.List.{get_or-replicate, length-replicate}
use Rattle.std.proofs.lemmas.Nat.Bits.{bit_at-zero}
use Rattle.nc_acts.specs.declared.acts.Act.{Act}
use Rattle.nc_acts.specs.declared.acts.Act.TheVariants.{Put}
use Rattle.nc_acts.specs.Acts.{puts_where}
use Rattle.nc_host_acts.specs.declared.act.NcAct.{NcAct}
use Rattle.nc_host_acts.specs.Shown.{act_of}
use Rattle.nc_host_acts.specs.machinery.Writing.{HasPutUpTo, is_among}
use Rattle.nc_host_acts.proofs.writing.PutLists.{puts_same}
use Rattle.nc_host_acts.proofs.writing.WriteSteps.{put_none, put_next, next_fits}
use Rattle.nc_host_acts.proofs.writing.RunLists.{bundle_more, stops_there}
use Rattle.nc_host_acts.proofs.writing.Bundles.{passed_all, part_fits, part_next}

-- the stops of a bundle
abbrev pub stops : List ℕ
stops = replicate 32 244

long : length stops ≡ 32
long = length-replicate {A = ℕ} 32 244

-- a place by its number
among_at : (places at k : ℕ) (b : ℕ) → bit_at places k ≡ b → is_among places at (at + k) ≡ (b == 1)
among_at places at k b is =
    let same : at + k - at ≡ k = omega arith in
    ap (λ (j : ℕ). bit_at places j == 1) same ∙ ap (λ (c : ℕ). c == 1) is

-- up to some place the stops of those whose bits are set are written, and the bits from it on are left
pub record Stopping (places left at : ℕ) (initial : List NcAct) (from : ℕ) (acts : List NcAct) (count : ℕ) : Type 0 where
  pub done : ℕ
  pub few : done ≤ 32
  pub none : (k : ℕ) → k < done → bit_at left k ≡ 0
  pub rest : (k : ℕ) → done ≤ k → k < 32 → bit_at left k ≡ bit_at places k
  pub put : HasPutUpTo (is_among places at) at stops initial from done acts count

-- at the beginning no stop is written
pub stopping_none : (places at : ℕ) (initial : List NcAct) (from : ℕ) → Stopping places places at initial from initial from
stopping_none places at initial from = record {
  done = 0;
  few = omega arith;
  none = λ k lt. absurd (omega (arith, lt));
  rest = λ k past lt. refl;
  put = put_none (is_among places at) at stops initial from;
}

-- the places whose bits aren't set are passed over
stopping_to : (places left at : ℕ) (initial : List NcAct) (from : ℕ) (acts : List NcAct) (count : ℕ)
    → (s : Stopping places left at initial from acts count) → (n : ℕ) → s.done ≤ n → n ≤ 32 → ((k : ℕ) → k < n → bit_at left k ≡ 0)
    → HasPutUpTo (is_among places at) at stops initial from n acts count
stopping_to places left at initial from acts count s n past most none =
    let reached : s.done + (n - s.done) ≡ n = omega (arith, past) in
    subst (λ (k : ℕ). HasPutUpTo (is_among places at) at stops initial from k acts count) reached
    (passed_all (is_among places at) at stops initial from s.done (n - s.done) acts count (omega (arith, long, reached, most))
    (λ i lt. among_at places at (s.done + i) 0
    (sym (s.rest (s.done + i) (omega arith) (omega (arith, lt, most))) ∙ none (s.done + i) (omega (arith, lt)))) s.put)

-- the lowest bit that is left is behind what is done
behind_done : (places left at : ℕ) (initial : List NcAct) (from : ℕ) (acts : List NcAct) (count : ℕ)
    → (s : Stopping places left at initial from acts count) → (k : ℕ) → bit_at left k ≡ 1 → s.done ≤ k
behind_done places left at initial from acts count s k is = elim (cases_lt k s.done) [
  | inl before ↦ absurd (let e : 0 ≡ 1 = sym (s.none k before) ∙ is in omega (arith, e))
  | inr past ↦ past
]

-- what is known where the lowest bit that is left is found
pub record Next (places at : ℕ) (initial : List NcAct) (from k : ℕ) (acts : List NcAct) (count : ℕ) : Type 0 where
  pub short : k < length stops
  pub is : is_among places at (at + k) ≡ true
  pub put : HasPutUpTo (is_among places at) at stops initial from k acts count

pub next_found : (places left at : ℕ) (initial : List NcAct) (from : ℕ) (acts : List NcAct) (count : ℕ)
    → Stopping places left at initial from acts count → (k : ℕ) → k < 32 → bit_at left k ≡ 1
    → ((i : ℕ) → i < k → bit_at left i ≡ 0) → Next places at initial from k acts count
next_found places left at initial from acts count s k lt is below =
    let past = behind_done places left at initial from acts count s k is in
    record {
      short = omega (arith, lt, long);
      is = among_at places at k 1 (sym (s.rest k past lt) ∙ is);
      put = stopping_to places left at initial from acts count s k past (omega (arith, lt)) below;
    }

-- there is room for the stop at the lowest bit that is left
pub stop_fits : (places left at : ℕ) (initial : List NcAct) (from : ℕ) (acts : List NcAct) (count : ℕ)
    → Stopping places left at initial from acts count → (k : ℕ) → k < 32 → bit_at left k ≡ 1
    → ((i : ℕ) → i < k → bit_at left i ≡ 0) → from + length (puts_where (is_among places at) at stops) ≤ length initial
    → count < length acts
stop_fits places left at initial from acts count s k lt is below room =
    let n = next_found places left at initial from acts count s k lt is below in
    next_fits (is_among places at) at stops initial from k acts count n.put n.short n.is room

-- the stop at the lowest bit that is left is written
pub stopping_next : (places left at : ℕ) (initial : List NcAct) (from : ℕ) (acts : List NcAct) (count : ℕ)
    → Stopping places left at initial from acts count → (k : ℕ) → k < 32 → bit_at left k ≡ 1
    → ((i : ℕ) → i < k → bit_at left i ≡ 0) → from + length (puts_where (is_among places at) at stops) ≤ length initial
    → (others : ℕ) → bit_at others k ≡ 0 → ((i : ℕ) → i < 32 → i ≢ k → bit_at others i ≡ bit_at left i)
    → Stopping places others at initial from (set acts count (act_of (Put (at + k) 244))) (count + 1)
stopping_next places left at initial from acts count s k lt is below room others cleared kept =
    let n = next_found places left at initial from acts count s k lt is below in
    let past = behind_done places left at initial from acts count s k is in
    record {
      done = k + 1;
      few = omega (arith, lt);
      none = λ i i-lt. elim (cases_eq i k) [
        | inl here ↦ ap (λ (j : ℕ). bit_at others j) here ∙ cleared
        | inr ne ↦ kept i (omega (arith, i-lt, lt)) ne ∙ below i (omega (arith, i-lt, ne))
      ];
      rest = λ i beyond i-lt. kept i i-lt (λ same. omega (arith, same, beyond)) ∙ s.rest i (omega (arith, beyond, past)) i-lt;
      put = subst (λ (b : ℕ). HasPutUpTo (is_among places at) at stops initial from (k + 1)
          (set acts count (act_of (Put (at + k) b))) (count + 1)) (get_or-replicate {A = ℕ} 32 k 244 0 lt)
          (put_next (is_among places at) at stops initial from k acts count n.put n.short n.is
          (stop_fits places left at initial from acts count s k lt is below room));
    }

-- once no bit is left, the stops of all whose bits are set are written
pub stopping_all : (places left at : ℕ) (initial : List NcAct) (from : ℕ) (acts : List NcAct) (count : ℕ) → left ≡ 0
    → Stopping places left at initial from acts count → HasPutUpTo (is_among places at) at stops initial from 32 acts count
stopping_all places left at initial from acts count e s =
    stopping_to places left at initial from acts count s 32 s.few (omega arith) (λ k lt. ap (λ (n : ℕ). bit_at n k) e ∙ bit_at-zero k)

-- ---- one bundle after others

-- the stops of a chunk up to the next bundle are those before it and those of this bundle
bundle_puts : (chosen : ℕ → Bool) (places base n len : ℕ) → 32 * n + 32 ≤ len
    → ((k : ℕ) → k < 32 → (bit_at places k == 1) ≡ chosen (base + (32 * n + k)))
    → puts_where chosen base (take (32 * (n + 1)) (replicate len 244))
    ≡ puts_where chosen base (take (32 * n) (replicate len 244)) ++ puts_where (is_among places (base + 32 * n)) (base + 32 * n) stops
bundle_puts chosen places base n len fits agree =
    let at = base + 32 * n in
    let before : List Act = puts_where chosen base (take (32 * n) (replicate len 244)) in
    let same : puts_where (is_among places at) at stops ≡ puts_where chosen at stops =
    puts_same (is_among places at) chosen at stops (λ k lt.
    let short : k < 32 = omega (arith, lt, long) in
    let here : at + k - at ≡ k = omega arith in
    ap (λ (j : ℕ). bit_at places j == 1) here
    ∙ (agree k short ∙ ap (λ (j : ℕ). chosen j) {x = base + (32 * n + k)} {y = at + k} (omega arith))) in
    bundle_more chosen base n (replicate len 244) (omega (arith, fits, length-replicate {A = ℕ} len 244))
    ∙ (ap (λ (z : List ℕ). before ++ puts_where chosen at z) (stops_there len n fits) ∙ ap (λ (z : List Act). before ++ z) (sym same))

-- there is room for the stops of one more bundle
pub bundle_fits : (chosen : ℕ → Bool) (places base n len : ℕ) (initial : List NcAct) (from : ℕ) (acts : List NcAct) (count : ℕ)
    → 32 * n + 32 ≤ len → ((k : ℕ) → k < 32 → (bit_at places k == 1) ≡ chosen (base + (32 * n + k)))
    → HasPutUpTo chosen base (replicate len 244) initial from (32 * n) acts count
    → from + length (puts_where chosen base (replicate len 244)) ≤ length initial
    → count + length (puts_where (is_among places (base + 32 * n)) (base + 32 * n) stops) ≤ length acts
bundle_fits chosen places base n len initial from acts count fits agree =
    part_fits chosen (is_among places (base + 32 * n)) base (base + 32 * n) n (replicate len 244) stops initial from acts count
    (bundle_puts chosen places base n len fits agree)

-- the stops of one more bundle follow those of the bundles before
pub bundle_next : (chosen : ℕ → Bool) (places base n len : ℕ) (initial : List NcAct) (from : ℕ) (acts now : List NcAct) (count m : ℕ)
    → 32 * n + 32 ≤ len → ((k : ℕ) → k < 32 → (bit_at places k == 1) ≡ chosen (base + (32 * n + k)))
    → HasPutUpTo chosen base (replicate len 244) initial from (32 * n) acts count
    → HasPutUpTo (is_among places (base + 32 * n)) (base + 32 * n) stops acts count 32 now m
    → HasPutUpTo chosen base (replicate len 244) initial from (32 * (n + 1)) now m
bundle_next chosen places base n len initial from acts now count m fits agree =
    part_next chosen (is_among places (base + 32 * n)) base (base + 32 * n) n (replicate len 244) stops initial from acts now count m long
    (bundle_puts chosen places base n len fits agree)

-- Puts by bits, the runs of some bundles, and what runs stand for.
use Rattle.std.proofs.Common.{◌≡◌, ℕ, zero, suc, ◌+◌, ◌*◌, ◌-◌, ◌/◌, ◌%◌, ◌<◌, ◌≤◌, ◌^◌, Bool, true, false, cond, List, [], ◌∷◌, ◌++◌, length, replicate, take}
use Rattle.std.proofs.Common.{drop, refl, ap, arith, sym, subst, ◌∙◌, append_assoc, eqb-true}
use Rattle.std.specs.Prelude.{◌==◌}
use Rattle.std.specs.Int.{bit_at}
use Rattle.std.proofs.lemmas.Nat.Bits.{bit_at-suc, bit_at_lowest}
use Rattle.std.proofs.lemmas.Bool.{eqb-false}
use Rattle.std.proofs.lemmas.List.{length-take-le, length-drop, length-replicate, drop-replicate, take-replicate}
use Rattle.std.proofs.Math.Nat.{pow-succ'}
use Rattle.std.proofs.Math.Seq.{take-add}
use Rattle.nc_decode.specs.declared.instruction.Mark.{Mark}
use Rattle.nc_acts.specs.declared.acts.Act.{Act}
use Rattle.nc_acts.specs.declared.acts.Act.TheVariants.{Put}
use Rattle.nc_acts.specs.declared.acts.Entry.{Entry}
use Rattle.nc_acts.specs.Acts.{puts_where}
use Rattle.nc_acts.specs.Log.{only_acts}
use Rattle.nc_host_acts.specs.declared.runs.Places.{Places}
use Rattle.nc_host_acts.specs.declared.runs.Places.TheVariants.{Inside, Starts, Marked, Unmarked}
use Rattle.nc_host_acts.specs.Runs.{Run, PutRun, StopRun, puts_by_bits, entries_of, entries_in, bits_where, bits_at, runs_where}
use Rattle.nc_host_acts.specs.machinery.Running.{picks, bytes_for, run_at, AreBits, HasBits}
use Rattle.nc_acts.proofs.Offered.{puts_append}

-- the puts that the bits of some places choose
pub by_bits : (chosen : ℕ → Bool) (at n bits : ℕ) (bytes : List ℕ) → AreBits chosen at n bits → length bytes ≤ n
    → puts_by_bits at bits bytes ≡ puts_where chosen at bytes
by_bits chosen at n bits [] h le = refl
by_bits chosen at zero bits (x ∷ rest) h le = absurd (omega (arith, le))
by_bits chosen at (suc n) bits (x ∷ rest) (here, more) le =
    ap (λ (b : Bool). cond b (Put at x ∷ puts_by_bits (at + 1) (bits / 2) rest) (puts_by_bits (at + 1) (bits / 2) rest)) here
    ∙ ap (λ (z : List Act). cond (chosen at) (Put at x ∷ z) z) (by_bits chosen (at + 1) n (bits / 2) rest more (omega (arith, le)))

-- the puts of one more bundle
pub bundle_more : (chosen : ℕ → Bool) (base i : ℕ) (bytes : List ℕ) → 32 * i + 32 ≤ length bytes
    → puts_where chosen base (take (32 * (i + 1)) bytes)
    ≡ puts_where chosen base (take (32 * i) bytes) ++ puts_where chosen (base + 32 * i) (take 32 (drop (32 * i) bytes))
bundle_more chosen base i bytes le =
    let next : 32 * (i + 1) ≡ 32 * i + 32 = omega arith in
    let front : length (take (32 * i) bytes) ≡ 32 * i = length-take-le (32 * i) bytes (omega (arith, le)) in
    ap (λ (k : ℕ). puts_where chosen base (take k bytes)) next
    ∙ (ap (λ (z : List ℕ). puts_where chosen base z) (take-add (32 * i) 32 bytes)
    ∙ (puts_append chosen base (take (32 * i) bytes) (take 32 (drop (32 * i) bytes))
    ∙ ap (λ (k : ℕ). puts_where chosen base (take (32 * i) bytes) ++ puts_where chosen (base + k) (take 32 (drop (32 * i) bytes))) front))

-- a bundle of some bytes has 32
bundle_long : (i : ℕ) (bytes : List ℕ) → 32 * i + 32 ≤ length bytes → length (take 32 (drop (32 * i) bytes)) ≤ 32
bundle_long i bytes le =
    let long : length (take 32 (drop (32 * i) bytes)) ≡ 32 =
    length-take-le 32 (drop (32 * i) bytes) (omega (arith, le, length-drop (32 * i) bytes)) in
    omega (arith, long)

-- the entries of a run of the chunk's bytes are puts at the places that pass
put_entries : (chosen : ℕ → Bool) (base : ℕ) (code : List ℕ) (i bits : ℕ) → 32 * i + 32 ≤ length code
    → AreBits chosen (base + 32 * i) 32 bits
    → entries_of base code (PutRun (base + 32 * i) bits) ≡ only_acts (puts_where chosen (base + 32 * i) (take 32 (drop (32 * i) code)))
put_entries chosen base code i bits le h =
    let here : base + 32 * i - base ≡ 32 * i = omega arith in
    ap (λ (k : ℕ). only_acts (puts_by_bits (base + 32 * i) bits (take 32 (drop k code)))) here
    ∙ ap (λ (z : List Act). only_acts z)
    (by_bits chosen (base + 32 * i) 32 bits (take 32 (drop (32 * i) code)) h (bundle_long i code le))

-- a bundle of a chunk's stops is 32 stops
pub stops_there : (n i : ℕ) → 32 * i + 32 ≤ n → take 32 (drop (32 * i) (replicate {A = ℕ} n 244)) ≡ replicate {A = ℕ} 32 244
stops_there n i le =
    ap (λ (z : List ℕ). take 32 z) (drop-replicate (32 * i) n 244) ∙ take-replicate 32 (n - 32 * i) 244 (omega (arith, le))

-- the entries of a run of stops are puts at the places that pass
stop_entries : (chosen : ℕ → Bool) (base : ℕ) (code : List ℕ) (i bits : ℕ) → 32 * i + 32 ≤ length code
    → AreBits chosen (base + 32 * i) 32 bits
    → entries_of base code (StopRun (base + 32 * i) bits)
    ≡ only_acts (puts_where chosen (base + 32 * i) (take 32 (drop (32 * i) (replicate {A = ℕ} (length code) 244))))
stop_entries chosen base code i bits le h =
    ap (λ (z : List Act). only_acts z)
    (by_bits chosen (base + 32 * i) 32 bits (replicate {A = ℕ} 32 244) h (omega (arith, length-replicate {A = ℕ} 32 244)))
    ∙ ap (λ (z : List ℕ). only_acts (puts_where chosen (base + 32 * i) z)) (sym (stops_there (length code) i le))

-- the entries of a run are puts at the places that it picks
pub run_entries : (places : Places) (marks : ℕ → Mark) (base : ℕ) (code : List ℕ) (i bits : ℕ) → 32 * i + 32 ≤ length code
    → HasBits (picks places marks base) (base + 32 * i) 32 bits
    → entries_of base code (run_at places (base + 32 * i) bits)
    ≡ only_acts (puts_where (picks places marks base) (base + 32 * i) (take 32 (drop (32 * i) (bytes_for places code))))
run_entries Inside marks base code i bits le h = put_entries (picks Inside marks base) base code i bits le h.are
run_entries Starts marks base code i bits le h = put_entries (picks Starts marks base) base code i bits le h.are
run_entries Marked marks base code i bits le h = stop_entries (picks Marked marks base) base code i bits le h.are
run_entries Unmarked marks base code i bits le h = stop_entries (picks Unmarked marks base) base code i bits le h.are

-- there are as many bytes for a run's entries as the chunk has
pub bytes_long : (places : Places) (code : List ℕ) → length (bytes_for places code) ≡ length code
bytes_long Inside code = refl
bytes_long Starts code = refl
bytes_long Marked code = length-replicate {A = ℕ} (length code) 244
bytes_long Unmarked code = length-replicate {A = ℕ} (length code) 244

-- the entries of runs, and of others after them
pub entries_append : (base : ℕ) (code : List ℕ) (xs ys : List Run)
    → entries_in base code (xs ++ ys) ≡ entries_in base code xs ++ entries_in base code ys
entries_append base code [] ys = refl
entries_append base code (x ∷ rest) ys =
    ap (λ (z : List Entry). entries_of base code x ++ z) (entries_append base code rest ys)
    ∙ sym (append_assoc (entries_of base code x) (entries_in base code rest) (entries_in base code ys))

-- a number is its lowest bit and twice the others
bit_more : (b : Bool) (bits rest : ℕ) → (bits % 2 == 1) ≡ b → bits / 2 ≡ rest → bits ≡ cond b 1 0 + 2 * rest
bit_more true bits rest h e = omega (arith, eqb-true (bits % 2) 1 h, e)
bit_more false bits rest h e = omega (arith, eqb-false (bits % 2) 1 h, e)

-- only one number has the bits that say which places pass
bits_are : (chosen : ℕ → Bool) (at n bits : ℕ) → AreBits chosen at n bits → bits ≡ bits_where chosen at n
bits_are chosen at zero bits h = h
bits_are chosen at (suc n) bits (here, more) =
    bit_more (chosen at) bits (bits_where chosen (at + 1) n) here (bits_are chosen (at + 1) n (bits / 2) more)

-- only one number has the bits that say which places of a bundle pass
pub bits_bundle : (chosen : ℕ → Bool) (at bits : ℕ) → HasBits chosen at 32 bits → bits ≡ bits_at chosen at
unfolding bits_at
bits_bundle chosen at bits h = bits_are chosen at 32 bits h.are

-- a number whose bits say which places pass the test
pub bits_by_places : (chosen : ℕ → Bool) (at n bits : ℕ) → bits < 2 ^ n → ((k : ℕ) → k < n → (bit_at bits k == 1) ≡ chosen (at + k))
    → AreBits chosen at n bits
bits_by_places chosen at zero bits fits h = omega (arith, fits)
bits_by_places chosen at (suc n) bits fits h = (
  ap (λ (b : ℕ). b == 1) (sym (bit_at_lowest bits)) ∙ (h 0 (omega arith) ∙ ap chosen {x = at + 0} {y = at} (omega arith)),
  bits_by_places chosen (at + 1) n (bits / 2) (omega (arith, fits, pow-succ' 2 n)) (λ k lt.
      ap (λ (b : ℕ). b == 1) (sym (bit_at-suc bits k)) ∙ (h (suc k) (omega (arith, lt)) ∙ ap chosen {x = at + suc k} {y = at + 1 + k} (omega arith))),
)

-- the run of one more bundle
pub runs_more : (run : ℕ → ℕ → Run) (chosen : ℕ → Bool) (at n : ℕ)
    → runs_where run chosen at (suc n) ≡ runs_where run chosen at n ++ run (at + 32 * n) (bits_at chosen (at + 32 * n)) ∷ []
runs_more run chosen at zero = ap (λ (k : ℕ). run k (bits_at chosen k) ∷ []) {x = at} {y = at + 32 * 0} (omega arith)
runs_more run chosen at (suc n) =
    ap (λ (z : List Run). run at (bits_at chosen at) ∷ z)
    (runs_more run chosen (at + 32) n
    ∙ ap (λ (k : ℕ). runs_where run chosen (at + 32) n ++ run k (bits_at chosen k) ∷ []) {x = at + 32 + 32 * n} {y = at + 32 * suc n} (omega arith))

-- two tests that agree on the places have the same bits
bits_same : (f g : ℕ → Bool) (at n : ℕ) → ((k : ℕ) → k < n → f (at + k) ≡ g (at + k)) → bits_where f at n ≡ bits_where g at n
bits_same f g at zero h = refl
bits_same f g at (suc n) h =
    let here : f at ≡ g at = subst (λ (k : ℕ). f k ≡ g k) {x = at + 0} {y = at} (omega arith) (h 0 (omega arith)) in
    let more : bits_where f (at + 1) n ≡ bits_where g (at + 1) n =
    bits_same f g (at + 1) n
    (λ k lt. subst (λ (m : ℕ). f m ≡ g m) {x = at + suc k} {y = at + 1 + k} (omega arith) (h (suc k) (omega (arith, lt)))) in
    ap (λ (b : Bool). cond b 1 0 + 2 * bits_where f (at + 1) n) here ∙ ap (λ (m : ℕ). cond (g at) 1 0 + 2 * m) more

-- two tests that agree on the places of a bundle have the same bits
bundle_same : (f g : ℕ → Bool) (at : ℕ) → ((k : ℕ) → k < 32 → f (at + k) ≡ g (at + k)) → bits_at f at ≡ bits_at g at
unfolding bits_at
bundle_same f g at h = bits_same f g at 32 h

-- two tests that agree on the places have the same runs
pub runs_same : (run : ℕ → ℕ → Run) (f g : ℕ → Bool) (at n : ℕ) → ((k : ℕ) → k < 32 * n → f (at + k) ≡ g (at + k))
    → runs_where run f at n ≡ runs_where run g at n
runs_same run f g at zero h = refl
runs_same run f g at (suc n) h =
    let more : runs_where run f (at + 32) n ≡ runs_where run g (at + 32) n =
    runs_same run f g (at + 32) n
    (λ k lt. subst (λ (m : ℕ). f m ≡ g m) {x = at + (32 + k)} {y = at + 32 + k} (omega arith) (h (32 + k) (omega (arith, lt)))) in
    ap (λ (b : ℕ). run at b ∷ runs_where run f (at + 32) n) (bundle_same f g at (λ k lt. h k (omega (arith, lt))))
    ∙ ap (λ (z : List Run). run at (bits_at g at) ∷ z) more

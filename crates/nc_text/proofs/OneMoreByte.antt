-- How a text changes by one more byte, put or passed over.
use Rattle.std.proofs.Common.{◌≡◌, ◌≢◌, ℕ, ◌+◌, ◌-◌, ◌<◌, ◌≤◌, Bool, true, false, List, length, get_or, set, arith, refl, ◌∙◌, sym, ap}
use Rattle.std.proofs.Common.{subst, ⊎_elim}
use Rattle.std.proofs.lemmas.List.{length-set, get_or-set_same, get_or-set_other}
use Rattle.std.proofs.lemmas.Bool.{cases_lt, false≢true}
use Rattle.nc_text.specs.Places.{byte_at}
use Rattle.nc_text.specs.Puts.{HasPut}

-- before the first byte nothing is put
pub put_none : (chosen : ℕ → Bool) (base : ℕ) (bytes old : List ℕ) → HasPut chosen base bytes 0 old old
put_none chosen base bytes old =
    record {
      as_long = refl;
      put = λ at low high is. absurd (omega (arith, low, high));
      passed = λ at low is. refl;
      below = λ at low high. refl;
      above = λ at low. refl;
    }

-- a byte stays where another one is put
pub byte_at_other : (text : List ℕ) (at other byte : ℕ) → 65536 ≤ at → 65536 ≤ other → other ≢ at
    → byte_at (set text (at - 65536) byte) other ≡ byte_at text other
byte_at_other text at other byte low low' differ = get_or-set_other text (at - 65536) (other - 65536) byte 0 (λ same. differ (omega arith))

-- where a byte is put, the text has it
pub byte_at_same : (text : List ℕ) (at byte : ℕ) → 65536 ≤ at → at < 65536 + length text → byte_at (set text (at - 65536) byte) at ≡ byte
byte_at_same text at byte low high = get_or-set_same text (at - 65536) byte 0 (omega arith)

-- the byte at the next place, where it is chosen, is put
pub put_more : (chosen : ℕ → Bool) (base : ℕ) (bytes : List ℕ) (count : ℕ) (old now : List ℕ) → HasPut chosen base bytes count old now
    → 65536 ≤ base → base + count < 65536 + length old → chosen (base + count) ≡ true
    → HasPut chosen base bytes (count + 1) old (set now (base + count - 65536) (get_or bytes count 0))
put_more chosen base bytes count old now puts low fits is =
    let here : ℕ = base + count in
    let elsewhere : (at : ℕ) → 65536 ≤ at → at ≢ base + count
    → byte_at (set now (base + count - 65536) (get_or bytes count 0)) at ≡ byte_at now at =
    λ at low' differ. byte_at_other now (base + count) at (get_or bytes count 0) (omega arith) low' differ in
    record {
      as_long = length-set now (base + count - 65536) (get_or bytes count 0) ∙ puts.as_long;
      put = λ at low' high chosen_at.
          ⊎_elim
          (λ (before : at < base + count). elsewhere at (omega arith) (λ same. omega (arith, before, same))
          ∙ puts.put at low' before chosen_at)
          (λ (last : base + count ≤ at).
          let same : at ≡ base + count = omega arith in
          let there : at - base ≡ count = omega arith in
          subst (λ (a : ℕ). byte_at (set now (base + count - 65536) (get_or bytes count 0)) a ≡ get_or bytes (at - base) 0) (sym same)
          (byte_at_same now (base + count) (get_or bytes count 0) (omega arith) (omega (arith, puts.as_long))
          ∙ ap (λ (k : ℕ). get_or bytes k 0) (sym there)))
          (cases_lt at (base + count));
      passed = λ at low' not. elsewhere at (omega arith) (λ same. false≢true (sym not ∙ (ap chosen same ∙ is))) ∙ puts.passed at low' not;
      below = λ at low' high. elsewhere at low' (λ same. omega (arith, same, high)) ∙ puts.below at low' high;
      above = λ at past. elsewhere at (omega arith) (λ same. omega (arith, same, past)) ∙ puts.above at (omega arith);
    }

-- the next place, where it isn't chosen, is passed
pub put_passed : (chosen : ℕ → Bool) (base : ℕ) (bytes : List ℕ) (count : ℕ) (old now : List ℕ) → HasPut chosen base bytes count old now
    → chosen (base + count) ≡ false → HasPut chosen base bytes (count + 1) old now
put_passed chosen base bytes count old now puts not =
    record {
      as_long = puts.as_long;
      put = λ at low high chosen_at.
          ⊎_elim
          (λ (before : at < base + count). puts.put at low before chosen_at)
          (λ (last : base + count ≤ at).
          let same : at ≡ base + count = omega arith in
          absurd (false≢true (sym not ∙ (ap chosen (sym same) ∙ chosen_at))))
          (cases_lt at (base + count));
      passed = puts.passed;
      below = puts.below;
      above = λ at past. puts.above at (omega arith);
    }

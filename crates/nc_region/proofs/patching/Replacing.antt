-- While an instruction is replaced, the text stays closed.
use Rattle.std.proofs.Common.{◌≡◌, ℕ, ◌+◌, ◌-◌, ◌≤◌, List, ◌∷◌, length, get_or, set, inl, inr}
use Rattle.std.proofs.Common.{arith, refl, ◌∙◌, sym, ap, subst, suc}
use Rattle.std.proofs.lemmas.Bool.Decides.{eqb_tells}
use Rattle.std.proofs.lemmas.List.{length-set, ext_get_or}
use Rattle.nc_text.specs.Places.{byte_at}
use Rattle.nc_text.specs.Marks.{IsClosed}
use Rattle.nc_text.specs.MarkedText.{MarkedText, with_span}
use Rattle.nc_text.proofs.Offered.{closed_with_stops, length-with_span}
use Rattle.nc_region.specs.Patch.{any_place}
use Rattle.nc_text.specs.Puts.{HasPut}
use Rattle.nc_region.specs.machinery.PatchSteps.{IsReplacing, IsInterim}
use Rattle.nc_text.proofs.Offered.{byte_at_other, byte_at_same}
use Rattle.nc_text.proofs.Offered.{place_of, Before, Within, Behind, span_before, span_within, span_behind}

-- while an instruction is replaced the text is closed
pub patching_closed : (marked : MarkedText) (at : ℕ) (new now : List ℕ) → IsReplacing marked at new
    → IsInterim (with_span marked.bytes (at - 65536) new) now at (length new) → IsClosed now marked.marks
patching_closed marked at new now patch p =
    closed_with_stops (with_span marked.bytes (at - 65536) new) now marked.marks patch.closed p.as_long (λ s m.
    elim (eqb_tells s.place at) [
      | inl here ↦ inl (ap (byte_at now) here.1 ∙ p.stop)
      | inr other ↦ inr (λ i is fits k lt.
          elim (patch.apart s i m other.1 is) [
            | inl l ↦ p.before (s.place + k) (omega (arith, m.0)) (omega (arith, l, lt))
            | inr b ↦ p.behind (s.place + k) (omega (arith, b))
          ])
    ])

-- the text with the new instruction is as long
patch_long : (marked : MarkedText) (at : ℕ) (new : List ℕ) → IsReplacing marked at new
    → length (with_span marked.bytes (at - 65536) new) ≡ length marked.bytes
patch_long marked at new patch = length-with_span marked.bytes (at - 65536) new (omega (arith, patch.low, patch.high))

-- the text with a stop at the start of the instruction is on its way to the one with the new instruction (`IsInterim`)
pub patch_started : (marked : MarkedText) (at : ℕ) (new : List ℕ) → IsReplacing marked at new
    → IsInterim (with_span marked.bytes (at - 65536) new) (set marked.bytes (at - 65536) 244) at (length new)
patch_started marked at new patch =
    record {
      as_long = length-set marked.bytes (at - 65536) 244 ∙ sym (patch_long marked at new patch);
      stop = byte_at_same marked.bytes at 244 patch.low (omega (arith, patch.high, patch.some));
      before = λ k low lt. byte_at_other marked.bytes at k 244 patch.low low (λ same. omega (arith, same, lt))
          ∙ sym (span_before marked.bytes at new k 0 patch.low (omega (arith, patch.high)) low lt);
      behind = λ k past. byte_at_other marked.bytes at k 244 patch.low (omega (arith, past, patch.low))
          (λ same. omega (arith, same, past, patch.some))
          ∙ sym (span_behind marked.bytes at new k 0 patch.low (omega (arith, patch.high)) past);
    }

-- some of the further bytes put
pub patching_from_put : (old now : List ℕ) (at : ℕ) (rest : List ℕ) (count len : ℕ) → 65536 ≤ at → count ≤ len → byte_at old at ≡ 244
    → HasPut any_place (at + 1) rest count old now → IsInterim old now at (1 + len)
patching_from_put old now at rest count len low le stop puts =
    record {
      as_long = puts.as_long;
      stop = puts.below at low (omega arith) ∙ stop;
      before = λ k low' lt. puts.below k low' (omega arith);
      behind = λ k past. puts.above k (omega arith);
    }

-- what goes on from the text with the stop
pub patching_over : (marked : MarkedText) (at : ℕ) (new now : List ℕ) (len : ℕ) → len ≡ length new → IsReplacing marked at new
    → IsInterim (set marked.bytes (at - 65536) 244) now at len → IsInterim (with_span marked.bytes (at - 65536) new) now at (length new)
patching_over marked at new now len is patch p =
    let s = patch_started marked at new patch in
    record {
      as_long = p.as_long ∙ s.as_long;
      stop = p.stop;
      before = λ k low lt. p.before k low lt ∙ s.before k low lt;
      behind = λ k past. p.behind k (omega (arith, is, past)) ∙ s.behind k past;
    }

-- with the stop, the bytes behind the first, and the first put, the new instruction stands
pub patch_final : (marked : MarkedText) (at first : ℕ) (rest now : List ℕ) → IsReplacing marked at (first ∷ rest)
    → HasPut any_place (at + 1) rest (length rest) (set marked.bytes (at - 65536) 244) now
    → set now (at - 65536) first ≡ with_span marked.bytes (at - 65536) (first ∷ rest)
patch_final marked at first rest now patch puts =
    let fits : at + length (first ∷ rest) ≤ 65536 + length marked.bytes = patch.high in
    let long : length now ≡ length marked.bytes = puts.as_long ∙ length-set marked.bytes (at - 65536) 244 in
    ext_get_or 0 (set now (at - 65536) first) (with_span marked.bytes (at - 65536) (first ∷ rest)) (length-set now (at - 65536) first
    ∙ (long ∙ sym (patch_long marked at (first ∷ rest) patch))) (λ j lt.
    let e : 65536 + j - 65536 ≡ j = omega arith in
    subst (λ (n : ℕ). get_or (set now (at - 65536) first) n 0 ≡ get_or (with_span marked.bytes (at - 65536) (first ∷ rest)) n 0) e
    (elim (place_of at (suc (length rest)) (65536 + j)) [
      | Before l ↦
          byte_at_other now at (65536 + j) first patch.low (omega arith) (λ same. omega (arith, same, l))
          ∙ (puts.below (65536 + j) (omega arith) (omega (arith, l))
          ∙ (byte_at_other marked.bytes at (65536 + j) 244 patch.low (omega arith) (λ same. omega (arith, same, l))
          ∙ sym (span_before marked.bytes at (first ∷ rest) (65536 + j) 0 patch.low fits (omega arith) l)))
      | Within a b ↦
          elim (eqb_tells (65536 + j) at) [
            | inl here ↦
                let z : at - at ≡ 0 = omega arith in
                subst (λ (n : ℕ). byte_at (set now (at - 65536) first) n ≡ byte_at (with_span marked.bytes (at - 65536) (first ∷ rest)) n)
                (sym here.1)
                (byte_at_same now at first patch.low (omega (arith, long, fits))
                ∙ sym (span_within marked.bytes at (first ∷ rest) at 0 patch.low fits (omega arith) (omega arith)
                ∙ ap (λ (n : ℕ). get_or (first ∷ rest) n 0) z))
            | inr later ↦
                let z : 65536 + j - at ≡ suc (65536 + j - (at + 1)) = omega (arith, later.1, a) in
                byte_at_other now at (65536 + j) first patch.low (omega arith) later.1
                ∙ (puts.put (65536 + j) (omega (arith, later.1, a)) (omega (arith, b)) refl
                ∙ sym (span_within marked.bytes at (first ∷ rest) (65536 + j) 0 patch.low fits a b
                ∙ ap (λ (n : ℕ). get_or (first ∷ rest) n 0) z))
          ]
      | Behind p ↦
          byte_at_other now at (65536 + j) first patch.low (omega arith) (λ same. omega (arith, same, p))
          ∙ (puts.above (65536 + j) (omega (arith, p))
          ∙ (byte_at_other marked.bytes at (65536 + j) 244 patch.low (omega arith) (λ same. omega (arith, same, p))
          ∙ sym (span_behind marked.bytes at (first ∷ rest) (65536 + j) 0 patch.low fits p)))
    ]))

-- one byte put is a span of one
pub single_span : (text : List ℕ) (at : ℕ) (bytes : List ℕ) → 65536 ≤ at → at + length bytes ≤ 65536 + length text → length bytes ≡ 1
    → set text (at - 65536) (get_or bytes 0 0) ≡ with_span text (at - 65536) bytes
single_span text at bytes low fits one =
    ext_get_or 0 (set text (at - 65536) (get_or bytes 0 0)) (with_span text (at - 65536) bytes)
    (length-set text (at - 65536) (get_or bytes 0 0) ∙ sym (length-with_span text (at - 65536) bytes (omega (arith, low, fits))))
    (λ j lt.
    let e : 65536 + j - 65536 ≡ j = omega arith in
    subst (λ (n : ℕ). get_or (set text (at - 65536) (get_or bytes 0 0)) n 0 ≡ get_or (with_span text (at - 65536) bytes) n 0) e
    (elim (place_of at (length bytes) (65536 + j)) [
      | Before l ↦ byte_at_other text at (65536 + j) (get_or bytes 0 0) low (omega arith) (λ same. omega (arith, same, l))
          ∙ sym (span_before text at bytes (65536 + j) 0 low fits (omega arith) l)
      | Within a b ↦
          let here : 65536 + j ≡ at = omega (arith, one, a, b) in
          let z : at - at ≡ 0 = omega arith in
          subst (λ (n : ℕ). byte_at (set text (at - 65536) (get_or bytes 0 0)) n ≡ byte_at (with_span text (at - 65536) bytes) n)
          (sym here)
          (byte_at_same text at (get_or bytes 0 0) low (omega (arith, fits, one))
          ∙ sym (span_within text at bytes at 0 low fits (omega arith) (omega (arith, one)) ∙ ap (λ (n : ℕ). get_or bytes n 0) z))
      | Behind p ↦ byte_at_other text at (65536 + j) (get_or bytes 0 0) low (omega arith) (λ same. omega (arith, same, p, one))
          ∙ sym (span_behind text at bytes (65536 + j) 0 low fits p)
    ]))

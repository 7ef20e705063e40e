-- Texts that agree outside a span.
use Rattle.std.proofs.Common.{◌≡◌, ℕ, ◌+◌, ◌-◌, ◌<◌, ◌≤◌, List, length, set, get_or, inl, inr, arith, refl, ◌∙◌, sym, subst, ⊎_elim}
use Rattle.std.proofs.lemmas.Bool.{cases_lt}
use Rattle.std.proofs.lemmas.List.{length-set, ext_get_or}
use Rattle.nc_text.specs.Places.{byte_at}
use Rattle.nc_text.specs.Puts.{HasPut}
use Rattle.nc_text.proofs.Offered.{place_of, Before, Within, Behind}
use Rattle.nc_text.proofs.Offered.{byte_at_other}
use Rattle.nc_region.specs.Patch.{any_place}
use Rattle.nc_histories.proofs.Deletion.{Agrees}

-- a text agrees with itself
pub agrees_itself : (at len : ℕ) (text : List ℕ) → Agrees at len text text
agrees_itself at len text = record { as_long = refl; outside = λ p low out. refl }

-- one text after the other
pub agrees_more : (at len : ℕ) (old now new : List ℕ) → Agrees at len old now → Agrees at len now new → Agrees at len old new
agrees_more at len old now new a b =
    record { as_long = b.as_long ∙ a.as_long; outside = λ p low out. b.outside p low out ∙ a.outside p low out }

-- texts that agree outside a span do so outside a wider one
pub agrees_wider : (at len from all : ℕ) (old now : List ℕ) → from ≤ at → at + len ≤ from + all → Agrees at len old now
    → Agrees from all old now
agrees_wider at len from all old now low high a =
    record {
      as_long = a.as_long;
      outside = λ p above out.
          a.outside p above (elim out [ inl l ↦ inl (omega (arith, l, low)) | inr b ↦ inr (omega (arith, b, high)) ]);
    }

-- texts agree in both directions
pub agrees_back : (at len : ℕ) (old now : List ℕ) → Agrees at len old now → Agrees at len now old
agrees_back at len old now a = record { as_long = sym a.as_long; outside = λ p low out. sym (a.outside p low out) }

-- a byte of a span is put
pub agrees_set : (at len here byte : ℕ) (text : List ℕ) → 65536 ≤ at → at ≤ here → here < at + len
    → Agrees at len text (set text (here - 65536) byte)
agrees_set at len here byte text low from to =
    record {
      as_long = length-set text (here - 65536) byte;
      outside = λ p above out.
          byte_at_other text here p byte (omega (arith, low, from)) above
          (λ same. elim out [ inl l ↦ omega (arith, l, same, from) | inr b ↦ omega (arith, b, same, to) ]);
    }

-- bytes of a span are put
pub agrees_put : (at len base : ℕ) (some now new : List ℕ) → at ≤ base → base + length some ≤ at + len
    → HasPut any_place base some (length some) now new → Agrees at len now new
agrees_put at len base some now new from to has =
    record {
      as_long = has.as_long;
      outside = λ p above out.
          elim out [ inl l ↦ has.below p above (omega (arith, l, from)) | inr b ↦ has.above p (omega (arith, b, to)) ];
    }

-- texts that agree outside an empty span are the same
pub agrees_all : (at : ℕ) (old now : List ℕ) → Agrees at 0 old now → now ≡ old
agrees_all at old now a =
    ext_get_or 0 now old a.as_long (λ i lt.
    let e : 65536 + i - 65536 ≡ i = omega arith in
    subst (λ (k : ℕ). get_or now k 0 ≡ get_or old k 0) e
    (a.outside (65536 + i) (omega arith)
    (⊎_elim (λ (l : 65536 + i < at). inl l) (λ (b : at ≤ 65536 + i). inr (omega (arith, b))) (cases_lt (65536 + i) at))))

-- a text that agrees with another outside a span, and at the span's first places, agrees outside the rest of it
pub agrees_rest : (at len rest all : ℕ) (final now : List ℕ) → all ≡ len + rest → Agrees at all final now
    → ((k : ℕ) → k < len → byte_at now (at + k) ≡ byte_at final (at + k)) → Agrees (at + len) rest final now
agrees_rest at len rest all final now is a there =
    record {
      as_long = a.as_long;
      outside = λ p low out.
          elim (place_of at len p) [
            | Before l ↦ a.outside p low (inl l)
            | Within x y ↦
                let e : at + (p - at) ≡ p = omega (arith, x) in
                subst (λ (q : ℕ). byte_at now q ≡ byte_at final q) e (there (p - at) (omega (arith, x, y)))
            | Behind b ↦
                elim out [ inl l ↦ absurd (omega (arith, b, l)) | inr past ↦ a.outside p low (inr (omega (arith, past, is))) ]
          ];
    }

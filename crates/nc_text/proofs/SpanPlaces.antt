-- Places beside a span, and the elements of a list of which a span was set, by addresses.
use Rattle.std.proofs.Common.{◌≡◌, ℕ, ◌+◌, ◌-◌, ◌<◌, ◌≤◌, List, length, get_or, arith, ◌∙◌, ap, ⊎_elim}
use Rattle.std.proofs.lemmas.Bool.{cases_lt}
use Rattle.nc_text.specs.MarkedText.{with_span}
use Rattle.nc_text.proofs.SpanElements.{get_or-with_span_in, get_or-with_span_below, get_or-with_span_above}

-- a place lies before the span, in it or after it
pub data Place (base len at : ℕ) : Type 0 where
  Before : at < base → Place base len at
  Within : base ≤ at → at < base + len → Place base len at
  Behind : base + len ≤ at → Place base len at

-- where a place lies
pub place_of : (base len at : ℕ) → Place base len at
place_of base len at =
    ⊎_elim (λ (l : at < base). Before l)
    (λ (h : base ≤ at). ⊎_elim (λ (l : at < base + len). Within h l) (λ (p : base + len ≤ at). Behind p) (cases_lt at (base + len)))
    (cases_lt at base)

-- an element of a list with a span set, by addresses
pub span_within : {X : Type 0} (xs : List X) (base : ℕ) (ys : List X) (at : ℕ) (d : X) → 65536 ≤ base
    → base + length ys ≤ 65536 + length xs → base ≤ at → at < base + length ys
    → get_or (with_span xs (base - 65536) ys) (at - 65536) d ≡ get_or ys (at - base) d
span_within xs base ys at d low fits from to =
    let e : at - 65536 - (base - 65536) ≡ at - base = omega arith in
    get_or-with_span_in xs (base - 65536) ys (at - 65536) d (omega arith) (omega arith) (omega arith) ∙ ap (λ (k : ℕ). get_or ys k d) e

-- an element before the span
pub span_before : {X : Type 0} (xs : List X) (base : ℕ) (ys : List X) (at : ℕ) (d : X) → 65536 ≤ base
    → base + length ys ≤ 65536 + length xs → 65536 ≤ at → at < base
    → get_or (with_span xs (base - 65536) ys) (at - 65536) d ≡ get_or xs (at - 65536) d
span_before xs base ys at d low fits from to = get_or-with_span_below xs (base - 65536) ys (at - 65536) d (omega arith) (omega arith)

-- an element after the span
pub span_behind : {X : Type 0} (xs : List X) (base : ℕ) (ys : List X) (at : ℕ) (d : X) → 65536 ≤ base
    → base + length ys ≤ 65536 + length xs → base + length ys ≤ at
    → get_or (with_span xs (base - 65536) ys) (at - 65536) d ≡ get_or xs (at - 65536) d
span_behind xs base ys at d low fits past = get_or-with_span_above xs (base - 65536) ys (at - 65536) d (omega arith) (omega arith)

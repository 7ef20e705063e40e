-- A span that is set over what was set within it before, or over what is there already.
use Rattle.std.proofs.Common.{◌≡◌, ℕ, ◌+◌, ◌-◌, ◌<◌, ◌≤◌, List, length, get_or, replicate, arith, refl, ◌∙◌, sym}
use Rattle.std.proofs.lemmas.List.{length-replicate, get_or-replicate}
use Rattle.std.proofs.lemmas.List.FromFn.{length-map-range_with_len, get_or-map-range_with_len}
use Rattle.nc_decode.specs.declared.instruction.Mark.TheVariants.{Unmarked}
use Rattle.nc_text.specs.MarkedText.{with_span, unused_mark, unused_marks}
use Rattle.nc_text.proofs.Offered.{length-with_span, is_with_span, get_or-with_span_in, get_or-with_span_below, get_or-with_span_above}

-- what was set within a span is lost when the whole span is set
pub span_over : {X : Type 0} (xs : List X) (j : ℕ) (ws : List X) (i : ℕ) (zs : List X) (d : X) → i + length zs ≤ length xs → i ≤ j
    → j + length ws ≤ i + length zs → with_span (with_span xs j ws) i zs ≡ with_span xs i zs
span_over xs j ws i zs d fits low high =
    let inner : j + length ws ≤ length xs = omega (arith, fits, high) in
    let long = length-with_span xs j ws inner in
    let fits' : i + length zs ≤ length (with_span xs j ws) = omega (arith, long, fits) in
    is_with_span (with_span (with_span xs j ws) i zs) xs i zs d fits (length-with_span (with_span xs j ws) i zs fits' ∙ long)
    (λ k lt. get_or-with_span_below (with_span xs j ws) i zs k d fits' lt ∙ get_or-with_span_below xs j ws k d inner (omega (arith, lt, low)))
    (λ k from to. get_or-with_span_in (with_span xs j ws) i zs k d fits' from to)
    (λ k past. get_or-with_span_above (with_span xs j ws) i zs k d fits' past
    ∙ get_or-with_span_above xs j ws k d inner (omega (arith, past, high)))

-- a span set to what is there changes nothing
span_same : {X : Type 0} (xs : List X) (i : ℕ) (zs : List X) (d : X) → i + length zs ≤ length xs
    → ((k : ℕ) → i ≤ k → k < i + length zs → get_or xs k d ≡ get_or zs (k - i) d) → with_span xs i zs ≡ xs
span_same xs i zs d fits same = sym (is_with_span xs xs i zs d fits refl (λ k lt. refl) same (λ k past. refl))

-- a list of one element stays as it is where a span of it is set to that element
pub same_over : (n i m y : ℕ) → i + m ≤ n → with_span (replicate n y) i (replicate m y) ≡ replicate n y
same_over n i m y fits =
    let many : length (replicate n y) ≡ n = length-replicate n y in
    let some : length (replicate m y) ≡ m = length-replicate m y in
    span_same (replicate n y) i (replicate m y) y (omega (arith, fits, many, some))
    (λ k from to. get_or-replicate n k y y (omega (arith, fits, some, to))
    ∙ sym (get_or-replicate m (k - i) y y (omega (arith, some, from, to))))

-- unused marks stay as they are where a span of them is set to unused marks
pub unused_over : (n i at m : ℕ) → i + m ≤ n → 65536 + i ≡ at → with_span (unused_marks 65536 n) i (unused_marks at m) ≡ unused_marks 65536 n
unused_over n i at m fits here =
    let many : length (unused_marks 65536 n) ≡ n = length-map-range_with_len unused_mark 65536 n in
    let some : length (unused_marks at m) ≡ m = length-map-range_with_len unused_mark at m in
    span_same (unused_marks 65536 n) i (unused_marks at m) Unmarked (omega (arith, fits, many, some))
    (λ k from to. get_or-map-range_with_len unused_mark 65536 n k (65536 + k) Unmarked (omega (arith, fits, some, to)) refl
    ∙ sym (get_or-map-range_with_len unused_mark at m (k - i) (65536 + k) Unmarked (omega (arith, some, from, to))
    (omega (arith, here, from))))

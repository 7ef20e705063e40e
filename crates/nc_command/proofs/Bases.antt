-- A text that spells an address is read as that address.
use Rattle.std.proofs.Common.{◌≡◌, ◌≢◌, rules, ◌<◌, ◌≤◌, ◌^◌, ◌∷◌, [], ℕ, List, Option, Some, None, Result, Ok, Err, Bor, length, get_or, drop, inl, inr, refl, sym, ◌∙◌, ap, subst, arith}
use Rattle.std.specs.Prelude.{MatchOption, slice_index, unwrap_or}
use Rattle.std.specs.Result.{result_ok}
use Rattle.std.specs.Str.Pattern.{FindsTextPrefix, StripsPrefix}
use Rattle.std.specs.Str.Parse.{AllDigits, IsNumeral, ParsesUnsigned, digits_value, without_leading_plus}
use Rattle.std.specs.Char.{digit_value}
use Rattle.std.proofs.lemmas.Int.Digits.{digits_value-lt}
use Rattle.std.proofs.Math.Nat.{pow-le-pow_right}
use Rattle.nc_command.specs.Checking.{EndsInDigits}

-- no digit is `x`, and none is `X`
no_small : (digits rest : List ℕ) → digits ≡ 48 ∷ 120 ∷ rest → AllDigits 16 digits → ⊥
no_small digits rest is all = let head = subst (AllDigits 16) is all in absurd (omega (arith, head.1.0))

no_large : (digits rest : List ℕ) → digits ≡ 48 ∷ 88 ∷ rest → AllDigits 16 digits → ⊥
no_large digits rest is all = let head = subst (AllDigits 16) is all in absurd (omega (arith, head.1.0))

-- no text begins with `0x` and with `0X`
not_both : (a b : List ℕ) → 48 ∷ 120 ∷ a ≡ 48 ∷ 88 ∷ b → ⊥
not_both a b e = let same : 120 ≡ 88 = ap (λ (l : List ℕ). get_or l 1 0) e in absurd (omega (arith, same))

-- the digits are what is left after `0x`
pub after_small : (text : Bor (List ℕ)) (digits : List ℕ) (x : Bor (List ℕ)) → StripsPrefix (FindsTextPrefix (48 ∷ 120 ∷ [])) text.now x.now
    → EndsInDigits text.now digits → IsNumeral 16 digits → x.now ≡ digits
after_small text digits x strips (inl is) numeral = absurd (no_small digits _ (sym is ∙ strips.1.1) numeral.1)
after_small text digits x strips (inr (inl is)) numeral = strips.2 ∙ ap (λ k. drop k text.now) strips.1.0 ∙ ap (drop 2) is
after_small text digits x strips (inr (inr is)) numeral = absurd (not_both _ digits (sym strips.1.1 ∙ is))

-- the digits are what is left after `0X`, or the whole text, where no `0x` stands first
pub after_large : (text : Bor (List ℕ)) (digits : List ℕ) (r : Option (Bor (List ℕ))) → FindsTextPrefix (48 ∷ 120 ∷ []) text.now None
    → MatchOption r (FindsTextPrefix (48 ∷ 88 ∷ []) text.now None) (λ x. StripsPrefix (FindsTextPrefix (48 ∷ 88 ∷ [])) text.now x.now)
    → EndsInDigits text.now digits → IsNumeral 16 digits → (unwrap_or r text).now ≡ digits
after_large text digits r lacks other (inr (inl is)) numeral = absurd (lacks digits is)
after_large text digits None lacks other (inl is) numeral = is
after_large text digits None lacks other (inr (inr is)) numeral = absurd (other digits is)
after_large text digits (Some x) lacks strips (inl is) numeral = absurd (no_large digits _ (sym is ∙ strips.1.1) numeral.1)
after_large text digits (Some x) lacks strips (inr (inr is)) numeral = strips.2 ∙ ap (λ k. drop k text.now) strips.1.0 ∙ ap (drop 2) is

-- a numeral has no plus in front
no_plus : (digits : List ℕ) → IsNumeral 16 digits → without_leading_plus digits ≡ digits
no_plus [] numeral = refl
no_plus (c ∷ cs) numeral = let apart : c ≢ 43 = λ e. let bad : digit_value 43 < 16 = subst (λ d. digit_value d < 16) e numeral.1.0 in absurd (omega (arith, bad)) in search rules

-- a numeral doesn't begin with a plus
pub no_plus_first : (digits text : List ℕ) → text ≡ digits → IsNumeral 16 digits → slice_index text 0 ≡ 43 → ⊥
no_plus_first [] text same numeral plus = absurd (omega (arith, numeral.0))
no_plus_first (c ∷ cs) text same numeral plus =
    let first : c ≡ 43 = sym (ap (λ (l : List ℕ). slice_index l 0) same) ∙ plus in
    let bad : digit_value 43 < 16 = subst (λ (d : ℕ). digit_value d < 16) first numeral.1.0 in
    absurd (omega (arith, bad))

-- a numeral of at most eight digits is below 2 ^ 32
small_value : (digits : List ℕ) → IsNumeral 16 digits → length digits ≤ 8 → digits_value 16 digits < 2 ^ 32
small_value digits numeral few =
    let least = digits_value-lt 16 digits numeral.1 in
    let most : 16 ^ length digits ≤ 16 ^ 8 = pow-le-pow_right {n = 16} (omega arith) few in
    omega (arith, least, most)

-- a numeral of at most eight digits is read
pub numeral_read : {E : Type 0} (digits : List ℕ) (r : Result ℕ E) → ParsesUnsigned 32 16 digits r → IsNumeral 16 digits → length digits ≤ 8
    → result_ok r ≡ Some (digits_value 16 digits)
numeral_read digits (Ok n) parses numeral few = ap Some (parses.1 ∙ ap (digits_value 16) (no_plus digits numeral))
numeral_read digits (Err e) parses numeral few =
    let small : digits_value 16 digits < 2 ^ 32 = small_value digits numeral few in
    absurd (parses (subst (λ ds. IsNumeral 16 ds × (digits_value 16 ds < 2 ^ 32)) (sym (no_plus digits numeral)) (numeral, small)))

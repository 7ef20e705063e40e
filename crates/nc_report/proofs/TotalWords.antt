-- The line of totals, put together.
use Rattle.std.proofs.Common.{◌≡◌, ℕ, ◌<◌, Bool, true, false, List, [], ◌∷◌, ◌++◌, if◌then◌else◌, refl, sym, ◌∙◌, ap, codes, not, ◌==◌, ◌||◌, decimal, append_assoc, Bor, ◌+◌, length, get_or, drop, map}
use Rattle.std.proofs.lemmas.List.{drop_more}
use Rattle.nc_report.specs.Totals.{kinds_from}
use Rattle.nc_report.specs.machinery.CountedFault.{kind_words}

-- the words for the first kind and the others, by whether its number is 0
kind_by : (zero begun : Bool) (rest : Bool → List ℕ) (digits name : List ℕ)
    → (if zero then rest begun else ((if begun then codes ", " else []) ++ (digits ++ (codes " " ++ (name ++ rest true)))))
    ≡ (if zero then [] else ((if begun then codes ", " else []) ++ (digits ++ (codes " " ++ name)))) ++ rest (begun || not zero)
kind_by true true rest digits name = refl
kind_by true false rest digits name = refl
kind_by false true rest digits name = simp append_assoc
kind_by false false rest digits name = simp append_assoc

-- the words for some kinds are those for the first and those for the others
kind_first : (begun : Bool) (n : ℕ) (name : List ℕ) (kinds : List (ℕ × List ℕ))
    → kinds_from begun ((n, name) ∷ kinds) ≡ kind_words begun n name ++ kinds_from (begun || not (n == 0)) kinds
kind_first begun n name kinds = kind_by (n == 0) begun (λ (b : Bool). kinds_from b kinds) (decimal n) name

-- the kinds with their names as lists of bytes
abbrev pub named : List (ℕ × Bor (List ℕ)) → List (ℕ × List ℕ)
named kinds = map (λ (kind : ℕ × Bor (List ℕ)). (kind.0, kind.1.now)) kinds

-- a kind was added, and the others are left
pub kind_added : (old out new : List ℕ) (begun : Bool) (kinds all : List (ℕ × Bor (List ℕ))) (i : ℕ) (d : ℕ × Bor (List ℕ))
    → i < length kinds
    → out ++ kinds_from begun (named (drop i kinds)) ≡ old ++ kinds_from false (named all)
    → new ≡ out ++ kind_words begun (get_or kinds i d).0 (get_or kinds i d).1.now
    → new ++ kinds_from (begun || not ((get_or kinds i d).0 == 0)) (named (drop (i + 1) kinds)) ≡ old ++ kinds_from false (named all)
kind_added old out new begun kinds all i d lt e added =
    let kind = get_or kinds i d in
    let rest = named (drop (i + 1) kinds) in
    ap (λ (z : List ℕ). z ++ kinds_from (begun || not (kind.0 == 0)) rest) added
    ∙ append_assoc out (kind_words begun kind.0 kind.1.now) (kinds_from (begun || not (kind.0 == 0)) rest)
    ∙ ap (λ (z : List ℕ). out ++ z) (sym (kind_first begun kind.0 kind.1.now rest))
    ∙ ap (λ (z : List (ℕ × Bor (List ℕ))). out ++ kinds_from begun (named z)) (sym (drop_more kinds i d lt))
    ∙ e

-- JSON has no control byte.
use Rattle.std.proofs.Common.{◌<◌, ◌≤◌, arith, ℕ, List, [], ◌∷◌, drop, refl, subst, sym, ◌∙◌, inl, inr}
use Rattle.std.proofs.lemmas.Bool.{cases_lt, and_parts}
use Rattle.std.proofs.lemmas.Bool.Decides.{nat_tests}
use Rattle.std.specs.List.{flat_map, list_all, range_with_len}
use Rattle.std.proofs.Math.Nat.{zero-add}
use Rattle.std.proofs.lemmas.List.Folds.{list_all-append}
use Rattle.std.proofs.lemmas.List.Sums.{AllPass-from_list_all}
use Rattle.std.proofs.lemmas.List.FromFn.{get_or-range_with_len}
use Rattle.hex.specs.Hex.{encode_with}
use Rattle.nc_output.specs.Shown.{is_shown, IsShown}
use Rattle.nc_report.specs.Objects.{Part, Whole, InObject, InArray, IsJson, Quoted, Braced, Bracketed, NoMembers, Member, NoElements, Element}
use Rattle.nc_output.specs.Strings.{escaped, string_of}
use Rattle.nc_output.proofs.Offered.{escaped_plain}

-- a byte below 80, once escaped, has no control byte
low : (b : ℕ) → b < 128 → IsShown (escaped b)
unfolding encode_with
low b lt =
    subst (λ (n : ℕ). IsShown (escaped n)) (get_or-range_with_len 0 128 b 0 lt ∙ zero-add b)
    (AllPass-from_list_all (λ (n : ℕ). list_all is_shown (escaped n)) (range_with_len 0 128) refl b 0 lt)

-- a byte from 80 on is shown by itself
alone : (b : ℕ) → 128 ≤ b → IsShown (b ∷ [])
alone b least = grind (arith, nat_tests)

-- an escaped byte has no control byte
escaped_shown : (b : ℕ) → IsShown (escaped b)
escaped_shown b = elim (cases_lt b 128) [
  | inl small ↦ low b small
  | inr least ↦
      subst IsShown (sym (escaped_plain b (λ e. omega arith) (λ e. omega arith) (omega arith) (λ e. omega arith))) (alone b least)
]

-- a string has no control byte
inner_shown : (bytes : List ℕ) → IsShown (flat_map escaped bytes)
inner_shown [] = refl
inner_shown (b ∷ bytes) = simp (list_all-append, escaped_shown b, inner_shown bytes)

string_shown : (bytes : List ℕ) → IsShown (string_of bytes)
string_shown bytes = simp (list_all-append, inner_shown bytes)

-- a text without its first byte has no control byte if the text has none
rest_shown : (text : List ℕ) → IsShown text → IsShown (drop 1 text)
rest_shown [] shown = refl
rest_shown (b ∷ text) shown = (and_parts (is_shown b) (list_all is_shown text) shown).1

-- JSON has no control byte
pub json_shown : (part : Part) (text : List ℕ) → IsJson part text → IsShown text
json_shown part text (Quoted bytes) = string_shown bytes
json_shown part text (Braced {names = names} {text = members} inside) =
    simp (list_all-append, rest_shown members (json_shown (InObject names) members inside))
json_shown part text (Bracketed {text = elements} inside) =
    simp (list_all-append, rest_shown elements (json_shown InArray elements inside))
json_shown part text NoMembers = refl
json_shown part text (Member {names = names} {text = members} {value = value} before name other is) =
    simp (list_all-append, json_shown (InObject names) members before, string_shown name, json_shown Whole value is)
json_shown part text NoElements = refl
json_shown part text (Element {text = elements} {value = value} before is) =
    simp (list_all-append, json_shown InArray elements before, json_shown Whole value is)

-- Members of objects, by their names.
use Rattle.std.proofs.Common.{◌≡◌, ℕ, true, false, List, [], ◌∷◌, ◌++◌, refl, sym, subst, ◌∙◌, ap, arith, true≢false, All, Contains, append_assoc, append-nil, codes, Option, Some, None}
use Rattle.std.specs.List.{list_any, list_all}
use Rattle.std.specs.Str.{bytes_eq}
use Rattle.std.proofs.lemmas.Cmp.{nat_list_eq_equiv}
use Rattle.std.proofs.lemmas.Bool.{and_parts}
use Rattle.std.proofs.lemmas.List.Elements.{All-nil, All-cons, All-weaker, All-contains, Contains-append_right}
use Rattle.std.proofs.lemmas.Map.Views.{Contains-from_any, list_any-from_Contains}
use Rattle.std.proofs.lemmas.Slice.Eq.{bytes_eq-Decides}
use Rattle.nc_output.specs.Strings.{string_of}
use Rattle.nc_output.specs.Verdicts.{address_digits}
use Rattle.nc_report.specs.Objects.{Whole, InArray, IsJson, Quoted, Bracketed, NoMembers, Member, member, string_member, array_of, AreMembers}
use Rattle.nc_report.specs.Report.{about_fault}
use Rattle.nc_report.specs.declared.labels.Label.{Label}
use Rattle.nc_report.specs.declared.targets.Target.{Target}
use Rattle.nc_report.specs.machinery.Members.{label_text, reason_text, symbol_member, target_members}

-- no members
pub no_members : (among : List (List ℕ)) → AreMembers among []
no_members among = ([], All-nil (Contains among), NoMembers)

-- a name that a test doesn't find is none of these
pub is_other : (names : List (List ℕ)) (name : List ℕ) → list_any (bytes_eq name) names ≡ false → Contains names name → ⊥
is_other names name none has = true≢false (sym (list_any-from_Contains nat_list_eq_equiv name names has) ∙ none)

-- one more member, whose name is none of these
pub one_more : (among : List (List ℕ)) (text name value : List ℕ) → list_any (bytes_eq name) among ≡ false → AreMembers among text
    → IsJson Whole value → AreMembers (name ∷ among) (text ++ member name value)
one_more among text name value none (names, each, is) whole = (
  name ∷ names,
  All-cons (Contains (name ∷ among)) name names (0, omega arith, refl)
      (All-weaker (Contains among) (Contains (name ∷ among)) (λ x has. Contains-append_right (name ∷ []) among x has) names each),
  Member is name (λ has. is_other among name none (All-contains (Contains among) names name each has)) whole,
)

-- more names are allowed, as a test says
pub wider : (among more : List (List ℕ)) (text : List ℕ) → list_all (λ name. list_any (bytes_eq name) more) among ≡ true → AreMembers among text
    → AreMembers more text
wider among more text found (names, each, is) =
    (names, All-weaker (Contains among) (Contains more) (λ x has. All-contains (Contains more) among x (all_found among found) has) names each, is)
  where
    all_found : (among : List (List ℕ)) → list_all (λ name. list_any (bytes_eq name) more) among ≡ true → All (Contains more) among
    all_found [] found = All-nil (Contains more)
    all_found (name ∷ among) found =
        let parts = and_parts (list_any (bytes_eq name) more) (list_all (λ name. list_any (bytes_eq name) more) among) found in
        All-cons (Contains more) name among (Contains-from_any (λ x y. (bytes_eq-Decides x y).0) name more parts.0) (all_found among parts.1)

-- a member by itself
pub one_member : (name words none all : List ℕ) → none ≡ [] → all ≡ none ++ string_member name words → AreMembers (name ∷ []) all
one_member name words none all empty is =
    subst (AreMembers (name ∷ [])) (sym (is ∙ ap (λ (z : List ℕ). z ++ string_member name words) empty))
    (one_more [] [] name (string_of words) refl (no_members []) (Quoted words))

-- two members with different names
pub two_members : (name other words more none one all : List ℕ) → list_any (bytes_eq other) (name ∷ []) ≡ false → none ≡ []
    → one ≡ none ++ string_member name words → all ≡ one ++ string_member other more → AreMembers (other ∷ name ∷ []) all
two_members name other words more none one all differs empty first second =
    subst (AreMembers (other ∷ name ∷ [])) (sym second)
    (one_more (name ∷ []) one other (string_of more) differs (one_member name words none one empty first) (Quoted more))

-- the member that names an address was added
pub symbol_added : (members all words : List ℕ) (label : Label) (at : ℕ) (found : Option Label) → Some label ≡ found → words ≡ label_text label at
    → all ≡ members ++ string_member (codes "symbol") words → all ≡ members ++ symbol_member found at
symbol_added members all words label at found is named added =
    added ∙ ap (λ (z : List ℕ). members ++ string_member (codes "symbol") z) named ∙ ap (λ (l : Option Label). members ++ symbol_member l at) is

-- the members about a target were added
pub target_added : (members one all digits why : List ℕ) (target : Target) (asked : Option Target) → asked ≡ Some target
    → digits ≡ address_digits target.to → why ≡ reason_text target → one ≡ members ++ string_member (codes "target") digits
    → all ≡ one ++ string_member (codes "why") why → all ≡ members ++ target_members asked
target_added members one all digits why target asked is to reason first second =
    let aimed : List ℕ → List ℕ = λ d. string_member (codes "target") d in
    let meant : List ℕ → List ℕ = λ w. string_member (codes "why") w in
    second ∙ ap (λ (z : List ℕ). z ++ meant why) first ∙ append_assoc members (aimed digits) (meant why)
    ∙ ap (λ (d : List ℕ). members ++ (aimed d ++ meant why)) to
    ∙ ap (λ (w : List ℕ). members ++ (aimed (address_digits target.to) ++ meant w)) reason
    ∙ ap (λ (t : Option Target). members ++ target_members t) (sym is)

-- the member that names an address, if it has a label
named : (label : Option Label) (at : ℕ) → AreMembers (codes "symbol" ∷ []) (symbol_member label at)
named None at = no_members (codes "symbol" ∷ [])
named (Some label) at = one_more [] [] (codes "symbol") (string_of (label_text label at)) refl (no_members []) (Quoted (label_text label at))

-- the members about a target, if there is one
targeted : (text : List ℕ) (target : Option Target) → AreMembers (codes "meaning" ∷ codes "symbol" ∷ []) text
    → AreMembers (codes "why" ∷ codes "target" ∷ codes "meaning" ∷ codes "symbol" ∷ []) (text ++ target_members target)
targeted text None are =
    subst (AreMembers (codes "why" ∷ codes "target" ∷ codes "meaning" ∷ codes "symbol" ∷ [])) (sym (append-nil text))
    (wider (codes "meaning" ∷ codes "symbol" ∷ []) (codes "why" ∷ codes "target" ∷ codes "meaning" ∷ codes "symbol" ∷ []) text refl are)
targeted text (Some target) are =
    let to = string_member (codes "target") (address_digits target.to) in
    let why = string_member (codes "why") (reason_text target) in
    subst (AreMembers (codes "why" ∷ codes "target" ∷ codes "meaning" ∷ codes "symbol" ∷ [])) (append_assoc text to why)
    (one_more (codes "target" ∷ codes "meaning" ∷ codes "symbol" ∷ []) (text ++ to) (codes "why") (string_of (reason_text target)) refl
    (one_more (codes "meaning" ∷ codes "symbol" ∷ []) text (codes "target") (string_of (address_digits target.to)) refl are
    (Quoted (address_digits target.to))) (Quoted (reason_text target)))

-- the members about a fault, each after those before it
pub about_one : (label : Option Label) (at : ℕ) (target : Option Target) (meaning bundle elements none named_ explained targeted_ shown all : List ℕ)
    → IsJson InArray elements → none ≡ [] → named_ ≡ none ++ symbol_member label at
    → explained ≡ named_ ++ string_member (codes "meaning") meaning → targeted_ ≡ explained ++ target_members target
    → shown ≡ targeted_ ++ string_member (codes "bundle") bundle → all ≡ shown ++ member (codes "starts") (array_of elements)
    → AreMembers about_fault all
about_one label at target meaning bundle elements none first second third fourth all json a b c d e f =
    let symbol = symbol_member label at in
    let meant = symbol ++ string_member (codes "meaning") meaning in
    let aimed = meant ++ target_members target in
    let spelled = aimed ++ string_member (codes "bundle") bundle in
    let are =
    one_more (codes "bundle" ∷ codes "why" ∷ codes "target" ∷ codes "meaning" ∷ codes "symbol" ∷ []) spelled (codes "starts") (array_of elements) refl
    (one_more (codes "why" ∷ codes "target" ∷ codes "meaning" ∷ codes "symbol" ∷ []) aimed (codes "bundle") (string_of bundle) refl
    (targeted meant target
    (one_more (codes "symbol" ∷ []) symbol (codes "meaning") (string_of meaning) refl (named label at) (Quoted meaning)))
    (Quoted bundle)) (Bracketed json) in
    let is : all ≡ spelled ++ member (codes "starts") (array_of elements) = simp (f, e, d, c, b, a) in
    subst (AreMembers about_fault) (sym is)
    (wider (codes "starts" ∷ codes "bundle" ∷ codes "why" ∷ codes "target" ∷ codes "meaning" ∷ codes "symbol" ∷ []) about_fault
    (spelled ++ member (codes "starts") (array_of elements)) refl are)

-- The text about the places of a chunk, one place after the other.
use Rattle.std.proofs.Common.{◌≡◌, ℕ, ◌+◌, ◌-◌, ◌≤◌, cond, List, [], ◌∷◌, ◌++◌, length, refl, sym, subst, ◌∙◌, ap, append_assoc, append-nil, Option, arith, codes, ◌==◌}
use Rattle.std.specs.Prelude.{option_to_list}
use Rattle.std.specs.List.{flat_map, range_with_len}
use Rattle.std.proofs.lemmas.List.Concat.{flat_map-append}
use Rattle.nc_vet.specs.declared.fault.VetFault.{VetFault}
use Rattle.nc_output.specs.declared.detail.Format.{Format}
use Rattle.nc_output.specs.declared.detail.Format.TheVariants.{Text, Json}
use Rattle.nc_reading.specs.declared.class.Class.{Class}
use Rattle.nc_reading.specs.Reading.{HasClasses}
use Rattle.nc_report.proofs.Members.{no_members}
use Rattle.nc_report.specs.Further.{fault_at, others_at, others_to}
use Rattle.nc_report.specs.Totals.{counts_to}
use Rattle.nc_report.specs.Report.{heading, about_fault, about_all, Shows, ShowsOne, Opens, ReportsEach, ReportsOthers, counts_text}
use Rattle.nc_output.specs.Adds.{Adds}
use Rattle.nc_report.proofs.ObjectTexts.{ReportsObject}
use Rattle.nc_report.proofs.Additions.{no_details}
use Rattle.nc_report.proofs.CountedFaults.{range_append, range_to}

-- text about faults after text about others
pub each_both : (f : Format) (fs gs : List VetFault) (a b : List ℕ) → ReportsEach f fs a → ReportsEach f gs b → ReportsEach f (fs ++ gs) (a ++ b)
each_both f [] gs a b e h = subst (ReportsEach f gs) (sym (ap (λ (z : List ℕ). z ++ b) e)) h
each_both f (fault ∷ fs) gs a b (words, rest, d, t, is) h = (
  words,
  rest ++ b,
  d,
  each_both f fs gs rest b t h,
  ap (λ (z : List ℕ). z ++ b) is ∙ append_assoc (heading f fault) (words ++ rest) b
      ∙ ap (λ (z : List ℕ). heading f fault ++ z) (append_assoc words rest b),
)

-- text about one fault
pub each_one : (f : Format) (fault : VetFault) (words : List ℕ) → ShowsOne f words → ReportsEach f (fault ∷ []) (heading f fault ++ words)
each_one f fault words d = (words, [], d, refl, ap (λ (z : List ℕ). heading f fault ++ z) (sym (append-nil words)))

-- something is shown about any fault
some_shown : (f : Format) → (text : List ℕ) × ShowsOne f text
some_shown Text = ([], no_details)
some_shown Json = (codes "}", ([], no_members about_fault, refl))

-- there is text about any faults
each_some : (f : Format) (fs : List VetFault) → (text : List ℕ) × ReportsEach f fs text
each_some f [] = ([], refl)
each_some f (fault ∷ fs) =
    let (words, shown) = some_shown f in
    let (rest, t) = each_some f fs in (heading f fault ++ (words ++ rest), (words, rest, shown, t, refl))

-- the further faults up to the next place are those up to this one, and those here
pub others_more : (base limit : ℕ) (code : List ℕ) (classes : List Class) (own k : ℕ)
    → others_to base limit code classes own (k + 1) ≡ others_to base limit code classes own k ++ others_at base limit code classes own k
others_more base limit code classes own k =
    let f = others_at base limit code classes own in
    ap (λ (z : List ℕ). flat_map f z) (range_to k) ∙ flat_map-append f _ (k ∷ [])
    ∙ ap (λ (z : List VetFault). others_to base limit code classes own k ++ z) (append-nil (f k))

-- text about the first places can be completed
pub completed : (f : Format) (base limit : ℕ) (code : List ℕ) (classes : List Class) (own k n : ℕ) → k ≤ n → (text : List ℕ)
    → ReportsEach f (others_to base limit code classes own k) text
    → (more : List ℕ) × ReportsEach f (others_to base limit code classes own n) (text ++ more)
completed f base limit code classes own k n le text h =
    let at = others_at base limit code classes own in
    let gs = flat_map at (range_with_len (0 + k) (n - k)) in
    let (more, t) = each_some f gs in
    let parts : others_to base limit code classes own n ≡ others_to base limit code classes own k ++ gs =
    ap (others_to base limit code classes own) {x = n} {y = k + (n - k)} (omega (arith, le))
    ∙ ap (flat_map at) (range_append 0 k (n - k)) ∙ flat_map-append at (range_with_len 0 k) _ in
    (more, subst (λ (fs : List VetFault). ReportsEach f fs (text ++ more)) (sym parts) (each_both f _ gs text more h t))

-- the text about the first places and that about the next one are the text about all of these
pub reported_more : (f : Format) (base limit : ℕ) (code : List ℕ) (classes : List Class) (own k : ℕ) (a b : List ℕ)
    → ReportsEach f (others_to base limit code classes own k) a → ReportsEach f (others_at base limit code classes own k) b
    → ReportsEach f (others_to base limit code classes own (k + 1)) (a ++ b)
reported_more f base limit code classes own k a b t u =
    subst (λ (fs : List VetFault). ReportsEach f fs (a ++ b)) (sym (others_more base limit code classes own k))
    (each_both f (others_to base limit code classes own k) (others_at base limit code classes own k) a b t u)

-- the text about a place is that about the fault there, if it isn't the chunk's own
pub reported_there : (f : Format) (base limit : ℕ) (code : List ℕ) (classes : List Class) (own k : ℕ) (found other : Option VetFault) (out new : List ℕ)
    → found ≡ fault_at base limit code classes k → option_to_list other ≡ cond (k == own) [] (option_to_list found) → Adds out new (ReportsEach f (option_to_list other))
    → Adds out new (ReportsEach f (others_at base limit code classes own k))
reported_there f base limit code classes own k found other out new is only a =
    subst (λ (fs : List VetFault). Adds out new (ReportsEach f fs)) (only ∙ ap (λ (x : Option VetFault). cond (k == own) [] (option_to_list x)) is) a

-- a further fault as an object
pub also_object : (old new : List ℕ) (fault : VetFault) → Adds old new (ReportsObject (codes ",") fault) → Adds old new (ReportsEach Json (fault ∷ []))
also_object old new fault a =
    let (words, shown, e) = a.says in
    record { text = a.text; says = subst (ReportsEach Json (fault ∷ [])) (sym e) (each_one Json fault words shown); added = a.added }

-- the numbers, and what is shown after them
abbrev pub ReportsLast : Format → ℕ → ℕ → List ℕ → List Class → List ℕ → Type 0
ReportsLast f base limit code classes text =
    (last : List ℕ) × Shows about_all f last × (text ≡ counts_text f (counts_to base limit code classes (length code)) ++ last)

-- the beginning, and the text about each fault
abbrev pub ReportsFirst : Format → ℕ → ℕ → List ℕ → List Class → VetFault → ℕ → List ℕ → Type 0
ReportsFirst f base limit code classes fault own text =
    (first each : List ℕ) × Opens f fault first × ReportsEach f (others_to base limit code classes own (length code)) each × (text ≡ first ++ each)

-- the beginning with the text about each fault, and the numbers, are the whole text about other faults
pub others_reported : (f : Format) (base limit : ℕ) (code : List ℕ) (classes : List Class) (fault : VetFault) (own : ℕ) → HasClasses code classes
    → (a b : List ℕ) → ReportsFirst f base limit code classes fault own a → ReportsLast f base limit code classes b
    → ReportsOthers f base limit code fault own (a ++ b)
others_reported f base limit code classes fault own h a b (first, each, o, t, is) (last, d, e) = record {
  steps = h.steps;
  reading = h.reading;
  first = first;
  opens = o;
  each = each;
  reports = subst (λ (z : List Class). ReportsEach f (others_to base limit code z own (length code)) each) h.is t;
  last = last;
  shown = d;
  is = ap (λ (z : List ℕ). z ++ b) is ∙ append_assoc first each b
      ∙ ap (λ (z : List ℕ). first ++ (each ++ z)) (e
      ∙ ap (λ (z : List Class). counts_text f (counts_to base limit code z (length code)) ++ last) h.is);
}

-- something is shown after the numbers, if only nothing
pub none_shown : (names : List (List ℕ)) (f : Format) → Shows names f []
none_shown names Text = no_details
none_shown names Json = no_members names

-- the text about each fault can be completed to the whole text about other faults
pub others_completed : (f : Format) (base limit : ℕ) (code : List ℕ) (classes : List Class) (fault : VetFault) (own : ℕ) → HasClasses code classes
    → (a : List ℕ) → ReportsFirst f base limit code classes fault own a → (more : List ℕ) × ReportsOthers f base limit code fault own (a ++ more)
others_completed f base limit code classes fault own h a t =
    let last = counts_text f (counts_to base limit code classes (length code)) ++ [] in
    (last, others_reported f base limit code classes fault own h a last t ([], none_shown about_all f, refl))

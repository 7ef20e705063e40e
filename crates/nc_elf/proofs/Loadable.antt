-- The loaded segments that the first program headers name, and where they lie.
use Rattle.std.proofs.Common.{◌≡◌, ℕ, zero, suc, ◌+◌, ◌<◌, ◌≤◌, List, [], ◌∷◌, ◌++◌, length, drop, set, true, false, ap, sym, ◌∙◌, subst, inl, inr, arith, rules, All, AllPairs, IsTrue}
use Rattle.std.proofs.lemmas.Bool.{and_parts, cases_Bool}
use Rattle.std.proofs.lemmas.List.{length-append}
use Rattle.nc_elf.specs.declared.loaded.NcSegment.{NcSegment}
use Rattle.nc_elf.specs.Segments.{program_header, is_load, is_present, loaded_of, AreGood, IsGoodSegment, IsLoadable, IsLoadedBelow}
use Rattle.nc_elf.specs.machinery.Pass.{first_loaded}
use Rattle.nc_elf.proofs.Lists.{more_chosen, more_passed, each_named, pairs_named}
use Rattle.nc_base.proofs.Offered.{over_one_more}

-- a header of a loaded segment adds it
pub more_loaded : (file : List ℕ) (i : ℕ) → is_present (program_header file i) ≡ true
    → first_loaded file (i + 1) ≡ first_loaded file i ++ loaded_of (program_header file i) ∷ []
more_loaded = more_chosen is_present loaded_of

-- a header of a segment that isn't loaded adds nothing
pub more_absent : (file : List ℕ) (i : ℕ) → is_present (program_header file i) ≡ false → first_loaded file (i + 1) ≡ first_loaded file i
more_absent = more_passed is_present loaded_of

-- no fewer segments are named with one more header
one_longer : (file : List ℕ) (i : ℕ) → length (first_loaded file i) ≤ length (first_loaded file (i + 1))
one_longer file i =
    elim (cases_Bool (is_present (program_header file i))) [
      | inl e ↦ omega (arith, ap (λ (xs : List NcSegment). length xs) (more_loaded file i e), length-append (first_loaded file i) (loaded_of (program_header file i) ∷ []))
      | inr e ↦ omega (arith, ap (λ (xs : List NcSegment). length xs) (more_absent file i e))
    ]

-- more headers name no fewer segments
pub no_fewer : (file : List ℕ) (i k : ℕ) → length (first_loaded file i) ≤ length (first_loaded file (i + k))
no_fewer file i zero =
    let same : i ≡ i + 0 = omega arith in
    let here : length (first_loaded file i) ≤ length (first_loaded file i) = omega arith in
    subst (λ (n : ℕ). length (first_loaded file i) ≤ length (first_loaded file n)) same here
no_fewer file i (suc k) =
    let next : i + k + 1 ≡ i + suc k = omega arith in
    subst (λ (n : ℕ). length (first_loaded file i) ≤ length (first_loaded file n)) next
    (omega (arith, no_fewer file i k, one_longer file (i + k)))

-- a segment that is present is loaded
present_is_loaded : (file : List ℕ) (i : ℕ) → is_present (program_header file i) ≡ true → IsTrue (is_load (program_header file i))
present_is_loaded file i e = (and_parts _ _ e).0

-- a present segment that has no fault
loadable : (file : List ℕ) (i : ℕ) → IsGoodSegment file i → is_present (program_header file i) ≡ true
    → IsLoadable file (loaded_of (program_header file i))
loadable file i g e =
    record {
      some = search rules;
      in_memory = g.in_memory;
      in_file = g.in_file;
      below_top = g.below_top;
      constant = g.constant;
      filled = g.filled;
    }

-- each listed segment can be loaded
pub all_loadable : (file : List ℕ) (n : ℕ) → AreGood file n → All (IsLoadable file) (first_loaded file n)
all_loadable file n g =
    each_named is_present loaded_of (IsLoadable file) file n (λ i l e. loadable file i (g.each i l (present_is_loaded file i e)) e)

-- each listed segment ends where the later ones begin, or before
pub all_below : (file : List ℕ) (n : ℕ) → AreGood file n → AllPairs IsLoadedBelow (first_loaded file n)
all_below file n g =
    pairs_named is_present loaded_of IsLoadedBelow file n (λ i k lt within here there.
    (g.each k within (present_is_loaded file k there)).after_others.each i lt (present_is_loaded file i here))

-- the next loaded segment, written behind the first ones
pub write_next : (file : List ℕ) (old now : List NcSegment) (i count : ℕ) (s : NcSegment) → is_present (program_header file i) ≡ true
    → s ≡ loaded_of (program_header file i) → count ≡ length (first_loaded file i)
    → now ≡ first_loaded file i ++ drop (length (first_loaded file i)) old → count < length now
    → set now count s ≡ first_loaded file (i + 1) ++ drop (length (first_loaded file (i + 1))) old
write_next file old now i count s here is counted written lt =
    let front = first_loaded file i in
    let fits : length front < length (front ++ drop (length front) old) =
    subst (λ (xs : List NcSegment). length front < length xs) written (omega (arith, counted, lt)) in
    ap (λ (xs : List NcSegment). set xs count s) written
    ∙ (ap (λ (k : ℕ). set (front ++ drop (length front) old) k s) counted
    ∙ (ap (λ (x : NcSegment). set (front ++ drop (length front) old) (length front) x) is
    ∙ (over_one_more front old (loaded_of (program_header file i)) fits
    ∙ ap (λ (xs : List NcSegment). xs ++ drop (length xs) old) (sym (more_loaded file i here)))))

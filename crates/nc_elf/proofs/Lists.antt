-- What the first program headers name of those that a test chooses, and the segments of code among them.
use Rattle.std.proofs.Common.{◌≡◌, ℕ, zero, suc, ◌+◌, ◌<◌, List, [], ◌∷◌, ◌++◌, map, filter, cond, Bool, true, false, sym, ap, ◌∙◌, subst}
use Rattle.std.proofs.Common.{inl, inr, arith, append-nil, add-one, All, AllPairs}
use Rattle.std.specs.List.{range_with_len}
use Rattle.std.proofs.lemmas.Bool.{cases_Bool}
use Rattle.std.proofs.lemmas.List.{map-append}
use Rattle.std.proofs.lemmas.List.Elements.{All-push}
use Rattle.std.proofs.lemmas.List.Quantifiers.{all_pairs_push}
use Rattle.std.proofs.lemmas.List.FromFn.{filter_of_map_range_with_len_more}
use Rattle.nc_elf.specs.declared.program.ProgramHeader.{ProgramHeader}
use Rattle.nc_elf.specs.Segments.{program_header, is_code, segment_of}
use Rattle.nc_elf.specs.machinery.Pass.{first_segments}

module _ {X : Type 0} (chosen : ProgramHeader → Bool) (of : ProgramHeader → X) where
  -- what the chosen ones of the first headers name
  abbrev named : List ℕ → ℕ → List X
  named file i = map of (filter chosen (map (λ j. program_header file j) (range_with_len 0 i)))

  -- the chosen ones of the first headers, and one more header
  more_headers : (file : List ℕ) (i : ℕ) (b : Bool) → chosen (program_header file i) ≡ b
      → filter chosen (map (λ j. program_header file j) (range_with_len 0 (i + 1)))
      ≡ filter chosen (map (λ j. program_header file j) (range_with_len 0 i)) ++ cond b (program_header file i ∷ []) []
  more_headers file i b e =
      filter_of_map_range_with_len_more chosen (λ j. program_header file j) 0 i i (omega arith)
      ∙ ap (λ (x : Bool). filter chosen (map (λ j. program_header file j) (range_with_len 0 i)) ++ cond x (program_header file i ∷ []) []) e

  -- a chosen header adds what it names
  pub more_chosen : (file : List ℕ) (i : ℕ) → chosen (program_header file i) ≡ true
      → named file (i + 1) ≡ named file i ++ of (program_header file i) ∷ []
  more_chosen file i e =
      ap (λ (hs : List ProgramHeader). map of hs) (more_headers file i true e) ∙ map-append of _ (program_header file i ∷ [])

  -- a header that isn't chosen adds nothing
  pub more_passed : (file : List ℕ) (i : ℕ) → chosen (program_header file i) ≡ false → named file (i + 1) ≡ named file i
  more_passed file i e =
      ap (λ (hs : List ProgramHeader). map of hs) (more_headers file i false e ∙ append-nil _)

  -- what holds of that which each chosen header names holds of all that is named
  pub each_named : (P : X → Type 0) (file : List ℕ) (n : ℕ)
      → ((i : ℕ) → i < n → chosen (program_header file i) ≡ true → P (of (program_header file i)))
      → All P (named file n)
  each_named P file zero h = λ k d l. absurd (omega arith)
  each_named P file (suc n) h =
      let before : All P (named file n) = each_named P file n (λ i l. h i (omega arith)) in
      subst (λ (m : ℕ). All P (named file m)) (add-one n)
      (elim (cases_Bool (chosen (program_header file n))) [
        | inl e ↦ subst (λ (xs : List X). All P xs) (sym (more_chosen file n e)) (All-push P _ _ before (h n (omega arith) e))
        | inr e ↦ subst (λ (xs : List X). All P xs) (sym (more_passed file n e)) before
      ])

  -- what holds of each chosen header and each later one holds of all that is named, in pairs
  pub pairs_named : (R : X → X → Type 0) (file : List ℕ) (n : ℕ)
      → ((i k : ℕ) → i < k → k < n → chosen (program_header file i) ≡ true → chosen (program_header file k) ≡ true
      → R (of (program_header file i)) (of (program_header file k)))
      → AllPairs R (named file n)
  pairs_named R file zero h = λ i j d l m. absurd (omega arith)
  pairs_named R file (suc n) h =
      let before : AllPairs R (named file n) = pairs_named R file n (λ i k lt within. h i k lt (omega arith)) in
      subst (λ (m : ℕ). AllPairs R (named file m)) (add-one n)
      (elim (cases_Bool (chosen (program_header file n))) [
        | inl e ↦
            subst (λ (xs : List X). AllPairs R xs) (sym (more_chosen file n e))
            (all_pairs_push R _ (of (program_header file n)) before
            (each_named (λ x. R x (of (program_header file n))) file n (λ i l k. h i n l (omega arith) k e)))
        | inr e ↦ subst (λ (xs : List X). AllPairs R xs) (sym (more_passed file n e)) before
      ])

-- a header of code adds its segment
pub more_code : (file : List ℕ) (i : ℕ) → is_code (program_header file i) ≡ true
    → first_segments file (i + 1) ≡ first_segments file i ++ segment_of (program_header file i) ∷ []
more_code = more_chosen is_code segment_of

-- a header of anything else adds no segment
pub more_other : (file : List ℕ) (i : ℕ) → is_code (program_header file i) ≡ false
    → first_segments file (i + 1) ≡ first_segments file i
more_other = more_passed is_code segment_of

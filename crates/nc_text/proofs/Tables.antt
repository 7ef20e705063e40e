-- What stands at the places of a table of pages, of which one page was changed.
use Rattle.std.proofs.Common.{◌≡◌, ◌≢◌, ℕ, ◌+◌, ◌/◌, ◌%◌, ◌<◌, ◌≤◌, Bool, true, false, suc, zero, List, [], ◌∷◌, map, length}
use Rattle.std.proofs.Common.{get_or, set, replicate, Some, None, arith, ◌⊎◌, refl, sym, ap, subst, ◌∙◌, inl, inr}
use Rattle.std.specs.Prelude.{Box}
use Rattle.std.specs.Box.{with_value}
use Rattle.std.specs.declared.alloc.Global.{Global}
use Rattle.std.specs.Option.{is_some}
use Rattle.std.specs.List.{range_with_len}
use Rattle.std.specs.Int.{bit_at}
use Rattle.std.proofs.lemmas.Bool.{cases_eq, cases_lt}
use Rattle.std.proofs.lemmas.Bool.Decides.{nat_tests}
use Rattle.std.proofs.lemmas.Nat.Bits.{bit_at-pow_other, bit_at-zero}
use Rattle.std.proofs.lemmas.List.{ext_get_or, length-set, get_or-set_same, get_or-set_other, get_or-replicate, map-set}
use Rattle.std.proofs.lemmas.List.{set-get_or, get_or_default, get_or_past}
use Rattle.std.proofs.lemmas.List.FromFn.{length-map-range_with_len, get_or-map-range_with_len}
use Rattle.nc_text.specs.declared.masks.Masks.{Masks}
use Rattle.nc_text.specs.declared.page.Page.{Page}
use Rattle.nc_text.specs.machinery.Masks.{mark_in, unused_masks}
use Rattle.nc_text.specs.machinery.Pages.{Slot, byte_on, mark_on, byte_if_made, mark_if_made, byte_of, mark_in_pages}
use Rattle.nc_text.specs.MarkedText.{unused_mark}

-- a bundle whose start alone is marked
pub bare_at : (k : ℕ) → k < 32 → mark_in unused_masks k ≡ unused_mark k
bare_at k lt =
    elim (cases_eq k 0) [
      | inl e ↦ subst (λ (n : ℕ). mark_in unused_masks n ≡ unused_mark n) (sym e) refl
      | inr ne ↦
          let a : bit_at 1 k ≡ 0 = bit_at-pow_other 0 k ne in
          let b : bit_at 0 k ≡ 0 = bit_at-zero k in
          let m : k % 32 ≢ 0 = omega arith in
          grind (arith, nat_tests, a, b, m)
    ]

-- an unused place has the same mark by its number in the bundle
pub unused_mark_in : (k : ℕ) → unused_mark (k % 32) ≡ unused_mark k
unused_mark_in k = let e : k % 32 % 32 ≡ k % 32 = omega arith in grind (arith, nat_tests, e)

-- an unused place has the same mark by its number on the page
pub unused_mark_on : (k : ℕ) → unused_mark (k % 4096) ≡ unused_mark k
unused_mark_on k = let e : k % 4096 % 32 ≡ k % 32 = omega arith in grind (arith, nat_tests, e)

-- bundles of which each has its start alone marked
pub fresh_marks : (masks : List Masks) (n k : ℕ) → masks ≡ replicate n unused_masks → k / 32 < n
    → mark_in (get_or masks (k / 32) unused_masks) (k % 32) ≡ unused_mark k
fresh_marks masks n k is lt =
    ap (λ (ms : List Masks). mark_in (get_or ms (k / 32) unused_masks) (k % 32)) is
    ∙ (ap (λ (m : Masks). mark_in m (k % 32)) (get_or-replicate n (k / 32) unused_masks unused_masks lt)
    ∙ (bare_at (k % 32) (omega arith) ∙ unused_mark_in k))

-- one bundle changed: what is said of each place of it is said of each place
pub one_bundle : (masks : List Masks) (b : ℕ) (new : Masks) (k : ℕ) → b < length masks
    → (k / 32 ≡ b → mark_in new (k % 32) ≡ mark_in (get_or masks b unused_masks) (k % 32))
    → mark_in (get_or (set masks b new) (k / 32) unused_masks) (k % 32) ≡ mark_in (get_or masks (k / 32) unused_masks) (k % 32)
one_bundle masks b new k inside same =
    elim (cases_eq (k / 32) b) [
      | inl e ↦
          ap (λ (j : ℕ). mark_in (get_or (set masks b new) j unused_masks) (k % 32)) e
          ∙ (ap (λ (m : Masks). mark_in m (k % 32)) (get_or-set_same masks b new unused_masks inside)
          ∙ (same e ∙ ap (λ (j : ℕ). mark_in (get_or masks j unused_masks) (k % 32)) (sym e)))
      | inr other ↦ ap (λ (m : Masks). mark_in m (k % 32)) (get_or-set_other masks b (k / 32) new unused_masks other)
    ]

-- what stands at a place of the bundle that was changed
pub in_bundle : (masks : List Masks) (new : Masks) (at k : ℕ) → at / 32 < length masks → at % 32 + k < 32
    → mark_in (get_or (set masks (at / 32) new) ((at + k) / 32) unused_masks) ((at + k) % 32) ≡ mark_in new (at % 32 + k)
in_bundle masks new at k inside small =
    let bundle : (at + k) / 32 ≡ at / 32 = omega (arith, small) in
    let place : (at + k) % 32 ≡ at % 32 + k = omega (arith, small) in
    ap (λ (j : ℕ). mark_in (get_or (set masks (at / 32) new) j unused_masks) ((at + k) % 32)) bundle
    ∙ (ap (λ (m : Masks). mark_in m ((at + k) % 32)) (get_or-set_same masks (at / 32) new unused_masks inside)
    ∙ ap (λ (j : ℕ). mark_in new j) place)

-- one page changed: what is said of each place of it is said of each place
pub one_page : {X : Type 0} (F : Slot → ℕ → X) (pages : List Slot) (i : ℕ) (new : Slot) (k : ℕ) → i < length pages
    → (k / 4096 ≡ i → F new (k % 4096) ≡ F (get_or pages i None) (k % 4096)) → F (get_or (set pages i new) (k / 4096) None) (k % 4096) ≡ F
    (get_or pages (k / 4096) None) (k % 4096)
one_page F pages i new k inside same =
    elim (cases_eq (k / 4096) i) [
      | inl e ↦
          ap (λ (j : ℕ). F (get_or (set pages i new) j None) (k % 4096)) e
          ∙ (ap (λ (o : Slot). F o (k % 4096)) (get_or-set_same pages i new None inside)
          ∙ (same e ∙ ap (λ (j : ℕ). F (get_or pages j None) (k % 4096)) (sym e)))
      | inr other ↦ ap (λ (o : Slot). F o (k % 4096)) (get_or-set_other pages i (k / 4096) new None other)
    ]

-- what is said of a place, by the page of another place
pub same_page : {X : Type 0} (F : Slot → ℕ → X) (pages : List Slot) (at k : ℕ) → at % 4096 + k < 4096
    → F (get_or pages ((at + k) / 4096) None) ((at + k) % 4096) ≡ F (get_or pages (at / 4096) None) (at % 4096 + k)
same_page F pages at k small =
    let page : (at + k) / 4096 ≡ at / 4096 = omega (arith, small) in
    let place : (at + k) % 4096 ≡ at % 4096 + k = omega (arith, small) in
    ap (λ (j : ℕ). F (get_or pages j None) ((at + k) % 4096)) page ∙ ap (λ (j : ℕ). F (get_or pages (at / 4096) None) j) place

-- what is said of a place of the page that was changed
pub on_page : {X : Type 0} (F : Slot → ℕ → X) (pages : List Slot) (new : Slot) (at k : ℕ) → at / 4096 < length pages → at % 4096 + k < 4096
    → F (get_or (set pages (at / 4096) new) ((at + k) / 4096) None) ((at + k) % 4096) ≡ F new (at % 4096 + k)
on_page F pages new at k inside small =
    same_page F (set pages (at / 4096) new) at k small
    ∙ ap (λ (o : Slot). F o (at % 4096 + k)) (get_or-set_same pages (at / 4096) new None inside)

-- whether a page is made
pub made_at : (pages : List Slot) (i : ℕ) → get_or (map is_some pages) i false ≡ is_some (get_or pages i None)
made_at [] i = refl
made_at (page ∷ pages) zero = refl
made_at (page ∷ pages) (suc i) = made_at pages i

-- the page of a number, which was lent from its box
pub record IsLentPage (pages : List Slot) (i : ℕ) (boxed : Box Page Global) (page : Page) : Type 0 where
  pub slot : get_or pages i None ≡ Some boxed
  pub loan : page ≡ boxed.value
  pub inside : i < length pages

-- a page that was found in a table is lent from its box
pub lent_page : {pages : List Slot} {i : ℕ} {boxed : Box Page Global} {page : Page} → (found : Slot) → i < length pages
    → get_or pages i found ≡ Some boxed → page ≡ boxed.value → IsLentPage pages i boxed page
lent_page {pages = pages} {i = i} found inside is loan =
    record { slot = get_or_default pages i None found inside ∙ is; loan = loan; inside = inside }

-- the byte of a place stays where a page that was lent came back with the same byte there
pub byte_kept : {pages : List Slot} {i : ℕ} {boxed : Box Page Global} {page : Page} → IsLentPage pages i boxed page → (new : Page) (k : ℕ)
    → (k / 4096 ≡ i → byte_on new (k % 4096) ≡ byte_on page (k % 4096))
    → byte_of (set pages i (Some (with_value boxed new))) k ≡ byte_of pages k
byte_kept {pages = pages} {i = i} {boxed = boxed} is new k same =
    one_page byte_if_made pages i (Some (with_value boxed new)) k is.inside (λ here. same here
    ∙ (ap (λ (p : Page). byte_on p (k % 4096)) is.loan ∙ ap (λ (o : Slot). byte_if_made o (k % 4096)) (sym is.slot)))

-- the mark of a place stays where a page that was lent came back with the same mark there
pub mark_kept : {pages : List Slot} {i : ℕ} {boxed : Box Page Global} {page : Page} → IsLentPage pages i boxed page → (new : Page) (k : ℕ)
    → (k / 4096 ≡ i → mark_on new (k % 4096) ≡ mark_on page (k % 4096))
    → mark_in_pages (set pages i (Some (with_value boxed new))) k ≡ mark_in_pages pages k
mark_kept {pages = pages} {i = i} {boxed = boxed} is new k same =
    one_page mark_if_made pages i (Some (with_value boxed new)) k is.inside (λ here. same here
    ∙ (ap (λ (p : Page). mark_on p (k % 4096)) is.loan ∙ ap (λ (o : Slot). mark_if_made o (k % 4096)) (sym is.slot)))

-- the same pages are made where a page that was lent came back
pub made_kept : {pages : List Slot} {i : ℕ} {boxed : Box Page Global} {page : Page} → IsLentPage pages i boxed page → (new : Page)
    → map is_some (set pages i (Some (with_value boxed new))) ≡ map is_some pages
made_kept {pages = pages} {i = i} {boxed = boxed} is new =
    map-set is_some pages i (Some (with_value boxed new))
    ∙ (ap (set (map is_some pages) i) (ap is_some (sym is.slot) ∙ sym (made_at pages i)) ∙ set-get_or (map is_some pages) i false)

-- a place that lies on the page of a span, and not in the span, has a number on the page that isn't in it
pub out_on_page : (at len k : ℕ) → at % 4096 + len ≤ 4096 → (k < at) ⊎ (at + len ≤ k) → k / 4096 ≡ at / 4096
    → (k % 4096 < at % 4096) ⊎ (at % 4096 + len ≤ k % 4096)
out_on_page at len k fits (inl low) same = inl (omega (arith, low, same))
out_on_page at len k fits (inr high) same = inr (omega (arith, high, same))

-- a page is made in one table where it is made in another with the same pages made
pub made_too : (pages others : List Slot) (i : ℕ) → map is_some pages ≡ map is_some others → is_some (get_or others i None) ≡ true
    → is_some (get_or pages i None) ≡ true
made_too pages others i same made =
    sym (made_at pages i) ∙ (ap (λ (bs : List Bool). get_or bs i false) same ∙ (made_at others i ∙ made))

-- lists that are made from functions which agree
pub same_all : {X : Type 0} (d : X) (f g : ℕ → X) (n : ℕ) → ((k : ℕ) → k < n → g k ≡ f k)
    → map g (range_with_len 0 n) ≡ map f (range_with_len 0 n)
same_all d f g n same =
    ext_get_or d (map g (range_with_len 0 n)) (map f (range_with_len 0 n))
    (length-map-range_with_len g 0 n ∙ sym (length-map-range_with_len f 0 n))
    (λ k lt.
    let short : k < n = omega (arith, lt, length-map-range_with_len g 0 n) in
    get_or-map-range_with_len g 0 n k k d short (omega arith)
    ∙ (same k short ∙ sym (get_or-map-range_with_len f 0 n k k d short (omega arith))))

-- lists that are made from functions which agree but at one place
pub same_but_one : {X : Type 0} (d : X) (f g : ℕ → X) (n at : ℕ) (x : X) → at < n → g at ≡ x → ((k : ℕ) → k ≢ at → g k ≡ f k)
    → map g (range_with_len 0 n) ≡ set (map f (range_with_len 0 n)) at x
same_but_one d f g n at x inside here other =
    let long : length (map f (range_with_len 0 n)) ≡ n = length-map-range_with_len f 0 n in
    ext_get_or d (map g (range_with_len 0 n)) (set (map f (range_with_len 0 n)) at x)
    (length-map-range_with_len g 0 n ∙ sym (length-set (map f (range_with_len 0 n)) at x ∙ long))
    (λ k lt.
    let short : k < n = omega (arith, lt, length-map-range_with_len g 0 n) in
    get_or-map-range_with_len g 0 n k k d short (omega arith) ∙ elim (cases_eq k at) [
      | inl e ↦ ap g e ∙ (here ∙ (sym (get_or-set_same (map f (range_with_len 0 n)) at x d (omega (arith, long, inside)))
          ∙ ap (λ (j : ℕ). get_or (set (map f (range_with_len 0 n)) at x) j d) (sym e)))
      | inr ne ↦ other k ne ∙ (sym (get_or-map-range_with_len f 0 n k k d short (omega arith))
          ∙ sym (get_or-set_other (map f (range_with_len 0 n)) at k x d ne))
    ])

-- a page that is made is in the table
pub made_within : (pages : List Slot) (i : ℕ) → is_some (get_or pages i None) ≡ true → i < length pages
made_within pages i made =
    elim (cases_lt i (length pages)) [
      | inl within ↦ within
      | inr past ↦ let idle : false ≡ true = ap is_some (sym (get_or_past pages i None past)) ∙ made in absurd (let e : ⊥ = cc in e)
    ]

-- some pages from the first on were made, as far as this one, and nothing else is changed
pub record IsMaking (old new : List Slot) (first i : ℕ) : Type 0 where
  pub made : (j : ℕ) → first ≤ j → j < i → is_some (get_or new j None) ≡ true
  pub kept : (j : ℕ) → is_some (get_or old j None) ≡ true → is_some (get_or new j None) ≡ true
  pub needed : (j : ℕ) → is_some (get_or new j None) ≡ true → (is_some (get_or old j None) ≡ true) ⊎ ((first ≤ j) × (j < i))
  pub bytes : (k : ℕ) → byte_of new k ≡ byte_of old k
  pub marks : (k : ℕ) → mark_in_pages new k ≡ mark_in_pages old k

-- pages are made as far as one more that was made already
pub making_made : (old new : List Slot) (first i : ℕ) → IsMaking old new first i → is_some (get_or new i None) ≡ true
    → IsMaking old new first (i + 1)
making_made old new first i so here =
    record {
      made = λ j low high. elim (cases_eq j i) [
        | inl e ↦ subst (λ (n : ℕ). is_some (get_or new n None) ≡ true) (sym e) here
        | inr ne ↦
            so.made j low (omega arith)
      ];
      kept = so.kept;
      needed = λ j is. elim (so.needed j is) [ inl was ↦ inl was | inr r ↦ inr (r.0, omega (arith, r.1)) ];
      bytes = so.bytes;
      marks = so.marks;
    }

-- pages are made as far as one more that is made now
pub making_more : (old new : List Slot) (first i : ℕ) (page : Box Page Global) → IsMaking old new first i → first ≤ i → i < length new
    → get_or new i None ≡ None → ((k : ℕ) → k < 4096 → byte_on page.value k ≡ 244)
    → ((k : ℕ) → k < 4096 → mark_on page.value k ≡ unused_mark k) → IsMaking old (set new i (Some page)) first (i + 1)
making_more old new first i page so low inside unmade bytes marks =
    let here : is_some (get_or (set new i (Some page)) i None) ≡ true = ap is_some (get_or-set_same new i (Some page) None inside) in
    record {
      made = λ j from high. elim (cases_eq j i) [
        | inl e ↦ subst (λ (n : ℕ). is_some (get_or (set new i (Some page)) n None) ≡ true) (sym e) here
        | inr ne ↦ ap is_some (get_or-set_other new i j (Some page) None ne) ∙ so.made j from (omega arith)
      ];
      kept = λ j was. elim (cases_eq j i) [
        | inl e ↦ subst (λ (n : ℕ). is_some (get_or (set new i (Some page)) n None) ≡ true) (sym e) here
        | inr ne ↦ ap is_some (get_or-set_other new i j (Some page) None ne) ∙ so.kept j was
      ];
      needed = λ j is. elim (cases_eq j i) [
        | inl e ↦ inr (omega (arith, e, low), omega (arith, e))
        | inr ne ↦ elim (so.needed j (ap is_some (sym (get_or-set_other new i j (Some page) None ne))
            ∙ is)) [ inl was ↦ inl was | inr r ↦ inr (r.0, omega (arith, r.1)) ]
      ];
      bytes = λ k. one_page byte_if_made new i (Some page) k inside (λ e. bytes (k % 4096) (omega arith)
          ∙ ap (λ (o : Slot). byte_if_made o (k % 4096)) (sym unmade)) ∙ so.bytes k;
      marks = λ k. one_page mark_if_made new i (Some page) k inside (λ e. marks (k % 4096) (omega arith)
          ∙ ap (λ (o : Slot). mark_if_made o (k % 4096)) (sym unmade)) ∙ so.marks k;
    }

-- a page that is not made is none
pub none_if_unmade : (o : Slot) → is_some o ≡ false → o ≡ None
none_if_unmade None unmade = refl
none_if_unmade (Some page) contrary = let idle : true ≡ false = contrary in cc

use Rattle.std.proofs.Common.{◌≡◌, ℕ, ◌+◌, ◌-◌, ◌*◌, ◌/◌, ◌%◌, ◌<◌, ◌≤◌, ◌⊎◌, min, List, length, get_or, replicate, arith, refl, ap, subst, ◌∙◌, inl, inr}
use Rattle.std.proofs.lemmas.Bool.{cases_lt}
use Rattle.std.proofs.lemmas.List.{places, length-replicate, get_or-replicate}
use Rattle.nc_text.specs.declared.masks.Masks.{Masks}
use Rattle.nc_text.specs.MarkedText.{unused_mark}
use Rattle.nc_text.specs.machinery.Masks.{mark_in, unused_masks}
use Rattle.nc_text.specs.machinery.Pages.{mark_on}
use Rattle.nc_text.proofs.Tables.{bare_at, unused_mark_in}
use Rattle.nc_text.proofs.page.Page.unmark.Goals as goal
use borrow.Rule.Slice.PartMut.{put_mid, mid_of}

-- the masks of a page of which some bundles were filled
abbrev filled : ℕ → ℕ → List Masks → List Masks → List Masks
filled first whole masks part = put_mid first (first + whole - first) masks part

-- there are as many filled masks as bundles
length-part : (masks part : List Masks) (m : Masks) (first whole : ℕ) → first + whole ≤ length masks
    → part ≡ replicate (length (mid_of first (first + whole - first) masks)) m → length part ≡ whole
length-part masks part m first whole fits is = ap (λ (ms : List Masks). length ms) is ∙ grind (arith, places, length-replicate {A = Masks})

-- the masks of the bundles that were filled
filled_in : (masks part : List Masks) (first whole j : ℕ) → first + whole ≤ length masks → length part ≡ whole → first ≤ j → j < first + whole
    → get_or (filled first whole masks part) j unused_masks ≡ get_or part (j - first) unused_masks
filled_in masks part first whole j fits long low high = grind (arith, places)

-- the masks of the bundles that were not filled
filled_out : (masks part : List Masks) (first whole j : ℕ) → first + whole ≤ length masks → length part ≡ whole
    → (j < first) ⊎ (first + whole ≤ j) → get_or (filled first whole masks part) j unused_masks ≡ get_or masks j unused_masks
filled_out masks part first whole j fits long (inl low) = grind (arith, places)
filled_out masks part first whole j fits long (inr high) = grind (arith, places)

-- the bundles that a span has whole, and the places before and after them
record HasParts (at len head first whole done : ℕ) : Type 0 where
  head_is : head ≡ min ((4096 - at) % 32) len
  first_is : first ≡ (at + head) / 32
  whole_is : whole ≡ (len - head) / 32
  done_is : done ≡ head + 32 * whole
  fits : at + len ≤ 4096

-- in which bundles a place is
in_whole : (at len head first whole done k : ℕ) → HasParts at len head first whole done → at + head ≤ k → k < at + done
    → (first ≤ k / 32) × (k / 32 < first + whole)
in_whole at len head first whole done k p low high = (omega arith, omega arith)

in_none : (at len head first whole done k : ℕ) → HasParts at len head first whole done → (k < at + head) ⊎ (at + done ≤ k)
    → (k / 32 < first) ⊎ (first + whole ≤ k / 32)
in_none at len head first whole done k p (inl low) =
    elim (cases_lt (k / 32) first) [ inl before ↦ inl before | inr from ↦ inr (omega (arith, low, from)) ]
in_none at len head first whole done k p (inr high) =
    elim (cases_lt (k / 32) first) [ inl before ↦ inl before | inr from ↦ inr (omega (arith, high, from)) ]

-- the masks where the whole bundles of a span were filled with those of an unused one
record IsFilled (at len head first whole done : ℕ) (masks part : List Masks) (m : Masks) : Type 0 where
  parts : HasParts at len head first whole done
  long : length masks ≡ 128
  part_is : part ≡ replicate (length (mid_of first (first + whole - first) masks)) m
  unused_is : m ≡ unused_masks

module _ (at len head first whole done : ℕ) (masks part : List Masks) (m : Masks) (is : IsFilled at len head first whole done masks part m) where
  room : first + whole ≤ length masks
  room = let p = is.parts in omega (arith, is.long, p.fits, p.first_is, p.whole_is, p.head_is)

  -- the marks of the bundles that were filled
  mark_inside : (j : ℕ) → at + head ≤ j → j < at + done
      → mark_in (get_or (filled first whole masks part) (j / 32) unused_masks) (j % 32) ≡ unused_mark j
  mark_inside j low high =
      let where_it_is = in_whole at len head first whole done j is.parts low high in
      let many = length-part masks part m first whole room is.part_is in
      ap (λ (w : Masks). mark_in w (j % 32)) (filled_in masks part first whole (j / 32) room many where_it_is.0 where_it_is.1
      ∙ (ap (λ (ms : List Masks). get_or ms (j / 32 - first) unused_masks) is.part_is
      ∙ (get_or-replicate _ (j / 32 - first) m unused_masks (omega (arith, many, where_it_is.0, where_it_is.1, ap (λ (ms : List Masks). length ms) is.part_is, length-replicate {A = Masks}))
      ∙ is.unused_is)))
      ∙ (bare_at (j % 32) (omega arith) ∙ unused_mark_in j)

  -- the marks of the bundles that were not filled
  mark_outside : (j : ℕ) → (j < at + head) ⊎ (at + done ≤ j)
      → mark_in (get_or (filled first whole masks part) (j / 32) unused_masks) (j % 32) ≡ mark_in (get_or masks (j / 32) unused_masks) (j % 32)
  mark_outside j out =
      ap (λ (w : Masks). mark_in w (j % 32)) (filled_out masks part first whole (j / 32) room
      (length-part masks part m first whole room is.part_is) (in_none at len head first whole done j is.parts out))

-- the masks of this page
filled_of : (c : goal.After-unmark_part-2) → IsFilled c.args.at c.args.len c.min-head.result ((c.args.at + c.min-head.result) / 32)
    ((c.args.len - c.min-head.result) / 32) (c.min-head.result + 32 * ((c.args.len - c.min-head.result) / 32))
    c.unmark_part.new.self.masks c.fill.new.self c.unused.result
filled_of c = record {
  parts = record { head_is = c.min-head.ensures; first_is = refl; whole_is = refl; done_is = refl; fits = c.requires.inside };
  long = omega arith;
  part_is = c.fill.ensures.after (λ y same. same);
  unused_is = c.unused.ensures;
}

pub returns-clause-within : goal.returns-clause-within
returns-clause-within c =
    let at = c.args.at in
    let head = c.min-head.result in
    let done = head + 32 * ((c.args.len - head) / 32) in
    λ k lt. elim (cases_lt k done) [
      | inl before ↦ c.unmark_part-2.ensures.others (at + k) (inl (omega arith)) ∙ elim (cases_lt k head) [
        | inl first ↦ mark_outside _ _ _ _ _ _ _ _ _ (filled_of c) (at + k) (inl (omega arith)) ∙ c.unmark_part.ensures.within k first
        | inr from ↦ mark_inside _ _ _ _ _ _ _ _ _ (filled_of c) (at + k) (omega arith) (omega arith)
      ]
      | inr from ↦
          let place : at + done + (k - done) ≡ at + k = omega (arith, from) in
          subst (λ (j : ℕ). mark_on c.unmark_part-2.new.self j ≡ unused_mark j) place (c.unmark_part-2.ensures.within (k - done) (omega (arith, from, lt)))
    ]

pub returns-clause-others : goal.returns-clause-others
returns-clause-others c = λ k out.
    let outside : (k < c.args.at + c.min-head.result) ⊎ (c.args.at + (c.min-head.result + 32 * ((c.args.len - c.min-head.result) / 32)) ≤ k) =
    elim out [ inl low ↦ inl (omega (arith, low)) | inr high ↦ inr (omega (arith, high, c.min-head.ensures)) ] in
    c.unmark_part-2.ensures.others k (elim out [ inl low ↦ inl (omega (arith, low)) | inr high ↦ inr (omega (arith, high, c.min-head.ensures)) ])
    ∙ (mark_outside _ _ _ _ _ _ _ _ _ (filled_of c) k outside
    ∙ c.unmark_part.ensures.others k (elim out [ inl low ↦ inl low | inr high ↦ inr (omega (arith, high, c.min-head.ensures)) ]))

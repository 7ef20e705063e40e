-- What a text is seen as, after the bytes or the marks of a span were set.
use Rattle.std.proofs.Common.{◌≡◌, ◌≢◌, ℕ, ◌+◌, ◌-◌, ◌<◌, ◌≤◌, List, map, length, get_or, set, arith, ◌⊎◌, sym, ap, subst, ◌∙◌}
use Rattle.std.proofs.Common.{inl, inr}
use Rattle.std.specs.List.{range_with_len}
use Rattle.std.proofs.lemmas.Bool.{cases_lt}
use Rattle.std.proofs.lemmas.List.{get_or_past}
use Rattle.std.proofs.lemmas.List.FromFn.{length-map-range_with_len, get_or-map-range_with_len}
use Rattle.nc_decode.specs.declared.instruction.Mark.{Mark}
use Rattle.nc_decode.specs.declared.instruction.Mark.TheVariants.{Unmarked}
use Rattle.nc_text.specs.machinery.Pages.{Slot, byte_of, mark_in_pages, text_of}
use Rattle.nc_text.specs.MarkedText.{with_span}
use Rattle.nc_text.specs.Ready.{TextState}
use Rattle.nc_text.proofs.SpanElements.{is_with_span}
use Rattle.nc_text.proofs.Tables.{same_but_one}
use Rattle.nc_text.proofs.Views.{IsLent, lent_long}

-- what is the same in a span and outside it is the same everywhere
pub same_everywhere : {X : Type 0} (f g : ℕ → X) (start len : ℕ) → ((k : ℕ) → k < len → f (start + k) ≡ g (start + k))
    → ((k : ℕ) → (k < start) ⊎ (start + len ≤ k) → f k ≡ g k) → (k : ℕ) → f k ≡ g k
same_everywhere f g start len within others k =
    elim (cases_lt k start) [
      | inl low ↦ others k (inl low)
      | inr from ↦ elim (cases_lt k (start + len)) [
        | inl to ↦
            let place : start + (k - start) ≡ k = omega (arith, from) in
            subst (λ (j : ℕ). f j ≡ g j) place (within (k - start) (omega (arith, from, to)))
        | inr high ↦ others k (inr high)
      ]
    ]

-- the elements of a span were replaced in what is seen
pub spanned : {X : Type 0} (d : X) (f g : ℕ → X) (size start len : ℕ) (ys : List X) → length ys ≡ len → start + len ≤ size
    → ((k : ℕ) → k < len → g (start + k) ≡ get_or ys k d) → ((k : ℕ) → (k < start) ⊎ (start + len ≤ k) → g k ≡ f k)
    → map g (range_with_len 0 size) ≡ with_span (map f (range_with_len 0 size)) start ys
spanned {X = X} d f g size start len ys is fits within others =
    let long_old = length-map-range_with_len f 0 size in
    let long_new = length-map-range_with_len g 0 size in
    is_with_span (map g (range_with_len 0 size)) (map f (range_with_len 0 size)) start ys d (omega (arith, is, fits, long_old))
    (long_new ∙ sym long_old)
    (λ k low. seen g k (omega (arith, low, fits)) ∙ (others k (inl low) ∙ sym (seen f k (omega (arith, low, fits)))))
    (λ k low high.
    let place : start + (k - start) ≡ k = omega (arith, low) in
    seen g k (omega (arith, is, high, fits))
    ∙ subst (λ (j : ℕ). g j ≡ get_or ys (k - start) d) place (within (k - start) (omega (arith, is, low, high))))
    (λ k past. elim (cases_lt k size) [
      | inl inside ↦ seen g k inside ∙ (others k (inr (omega (arith, is, past))) ∙ sym (seen f k inside))
      | inr out ↦ get_or_past (map g (range_with_len 0 size)) k d (omega (arith, long_new, out))
          ∙ sym (get_or_past (map f (range_with_len 0 size)) k d (omega (arith, long_old, out)))
    ])
  where
    seen : (h : ℕ → X) (k : ℕ) → k < size → get_or (map h (range_with_len 0 size)) k d ≡ h k
    seen h k inside = get_or-map-range_with_len h 0 size k k d inside (omega arith)

-- a byte put in a table that was lent is put in the text's bytes
pub byte_put : {old lent : List Slot} {size : ℕ} {now : TextState} → IsLent old lent size now → (new : List Slot) (at byte : ℕ)
    → at < length now.marked.bytes → byte_of new at ≡ byte → ((k : ℕ) → k ≢ at → byte_of new k ≡ byte_of lent k)
    → (text_of new size).marked.bytes ≡ set now.marked.bytes at byte
byte_put {old = old} {size = size} is new at byte inside here others =
    same_but_one 0 (byte_of old) (byte_of new) size at byte (omega (arith, inside, (lent_long is).1)) here
    (λ k ne. others k ne ∙ ap (λ (ps : List Slot). byte_of ps k) is.loan)
    ∙ ap (λ (t : TextState). set t.marked.bytes at byte) is.view

-- a span of bytes replaced in a table that was lent is replaced in the text's bytes
pub bytes_spanned : {old lent : List Slot} {size : ℕ} {now : TextState} → IsLent old lent size now → (new : List Slot) (start len : ℕ)
    (bytes : List ℕ) → length bytes ≡ len → start + len ≤ length now.marked.bytes
    → ((k : ℕ) → k < len → byte_of new (start + k) ≡ get_or bytes k 0)
    → ((k : ℕ) → (k < start) ⊎ (start + len ≤ k) → byte_of new k ≡ byte_of lent k)
    → (text_of new size).marked.bytes ≡ with_span now.marked.bytes start bytes
bytes_spanned {old = old} {size = size} is new start len bytes long fits within others =
    spanned 0 (byte_of old) (byte_of new) size start len bytes long (omega (arith, fits, (lent_long is).1)) within
    (λ k out. others k out ∙ ap (λ (ps : List Slot). byte_of ps k) is.loan)
    ∙ ap (λ (t : TextState). with_span t.marked.bytes start bytes) is.view

-- a span of marks replaced in a table that was lent is replaced in the text's marks
pub marks_spanned : {old lent : List Slot} {size : ℕ} {now : TextState} → IsLent old lent size now → (new : List Slot) (start len : ℕ)
    (marks : List Mark) → length marks ≡ len → start + len ≤ length now.marked.bytes
    → ((k : ℕ) → k < len → mark_in_pages new (start + k) ≡ get_or marks k Unmarked)
    → ((k : ℕ) → (k < start) ⊎ (start + len ≤ k) → mark_in_pages new k ≡ mark_in_pages lent k)
    → (text_of new size).marked.marks ≡ with_span now.marked.marks start marks
marks_spanned {old = old} {size = size} is new start len marks long fits within others =
    spanned Unmarked (mark_in_pages old) (mark_in_pages new) size start len marks long (omega (arith, fits, (lent_long is).1)) within
    (λ k out. others k out ∙ ap (λ (ps : List Slot). mark_in_pages ps k) is.loan)
    ∙ ap (λ (t : TextState). with_span t.marked.marks start marks) is.view

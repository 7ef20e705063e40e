-- What a call does to one part of a row, it does to the row.
use Rattle.std.proofs.Common.{◌≡◌, ℕ, ◌+◌, ◌≤◌, List, [], ◌∷◌, ◌++◌, length, take, drop, refl, sym, ap, ◌∙◌, arith, subst, append_assoc, inl, inr}
use Rattle.std.proofs.lemmas.Bool.{cases_lt}
use Rattle.std.proofs.lemmas.List.{take_at, drop_at, length-append}
use Rattle.nc_list.specs.declared.chunk.Chunk.{Chunk}
use Rattle.nc_list.specs.Chunks.{IsAboveAll, IsBelowAll, IsNextChunk, IsRetired, IsInserted, Meets, live}
use Rattle.nc_list.specs.Parts.{IsPut, BeginAbove, all_of}
use Rattle.nc_base.proofs.Offered.{each_append}
use Rattle.nc_list.proofs.Pieces.{all_around}
use Rattle.nc_list.proofs.Ascending.{meets_rest}

-- chunks above a place don't overlap a free span that begins there
pub above_free : (base len : ℕ) (chunks : List Chunk) → BeginAbove base chunks → ¬ Meets base len chunks → IsBelowAll (base + len) chunks
above_free base len [] above free = tt
above_free base len (d ∷ rest) above free = (
  elim (cases_lt d.base (base + len)) [
    | inl lt ↦ absurd (free (inl (omega (arith, above.0), lt)))
    | inr le ↦ le
  ],
  above_free base len rest above.1 (λ m. free (inr m)),
)

-- a chunk put into a part
pub put_within : (before : List (List Chunk)) (here new : List Chunk) (after : List (List Chunk)) (base len : ℕ)
    → IsAboveAll base (all_of before) → BeginAbove base (all_of after) → ¬ Meets base len (all_of (before ++ here ∷ after))
    → IsPut here new (live base len) → IsPut (all_of (before ++ here ∷ after)) (all_of (before ++ new ∷ after)) (live base len)
put_within before here new after base len below above free put =
    let c = live base len in
    let rest : ¬ Meets base len (all_of after) =
    λ m. free (subst (Meets base len) (sym (all_around before here after))
    (meets_rest base len (all_of before) (here ++ all_of after) (meets_rest base len here (all_of after) m))) in
    record {
      before = all_of before ++ put.before;
      after = put.after ++ all_of after;
      was = all_around before here after
          ∙ (ap (λ (z : List Chunk). all_of before ++ (z ++ all_of after)) put.was
          ∙ (ap (λ (z : List Chunk). all_of before ++ z) (append_assoc put.before put.after (all_of after))
          ∙ sym (append_assoc (all_of before) put.before (put.after ++ all_of after))));
      now = all_around before new after
          ∙ (ap (λ (z : List Chunk). all_of before ++ (z ++ all_of after)) put.now
          ∙ (ap (λ (z : List Chunk). all_of before ++ z) (append_assoc put.before (c ∷ put.after) (all_of after))
          ∙ sym (append_assoc (all_of before) put.before (c ∷ (put.after ++ all_of after)))));
      below = each_append (λ (d : Chunk). d.base + d.length ≤ base) (all_of before) put.before below put.below;
      above = each_append (λ (d : Chunk). base + len ≤ d.base) put.after (all_of after) put.above
          (above_free base len (all_of after) above rest);
    }

-- a chunk retired in a part
pub retired_within : (before : List (List Chunk)) (here new : List Chunk) (after : List (List Chunk)) (base stamp : ℕ)
    → IsRetired here new base stamp → IsRetired (all_of (before ++ here ∷ after)) (all_of (before ++ new ∷ after)) base stamp
retired_within before here new after base stamp so = record {
  before = all_of before ++ so.before;
  after = so.after ++ all_of after;
  chunk = so.chunk;
  was = all_around before here after
      ∙ (ap (λ (z : List Chunk). all_of before ++ (z ++ all_of after)) so.was
      ∙ (ap (λ (z : List Chunk). all_of before ++ z) (append_assoc so.before (so.chunk ∷ so.after) (all_of after))
      ∙ sym (append_assoc (all_of before) so.before (so.chunk ∷ (so.after ++ all_of after)))));
  base_is = so.base_is;
  now = all_around before new after
      ∙ (ap (λ (z : List Chunk). all_of before ++ (z ++ all_of after)) so.now
      ∙ (ap (λ (z : List Chunk). all_of before ++ z) (append_assoc so.before _ (all_of after))
      ∙ sym (append_assoc (all_of before) so.before _)));
}

-- the chunk that has a place, in a part
pub next_within : (before : List (List Chunk)) (here : List Chunk) (after : List (List Chunk)) (at : ℕ) (c : Chunk)
    → IsAboveAll at (all_of before) → IsNextChunk here at c → IsNextChunk (all_of (before ++ here ∷ after)) at c
next_within before here after at c below so = record {
  before = all_of before ++ so.before;
  after = so.after ++ all_of after;
  parts = all_around before here after
      ∙ (ap (λ (z : List Chunk). all_of before ++ (z ++ all_of after)) so.parts
      ∙ (ap (λ (z : List Chunk). all_of before ++ z) (append_assoc so.before (c ∷ so.after) (all_of after))
      ∙ sym (append_assoc (all_of before) so.before (c ∷ (so.after ++ all_of after)))));
  below = each_append (λ (d : Chunk). d.base + d.length ≤ at) (all_of before) so.before below so.below;
  above = so.above;
}

-- the chunk put in is inserted where it fits
pub put_inserted : (old new : List Chunk) (c : Chunk) → IsPut old new c → IsInserted old new c
put_inserted old new c put =
    let front : take (length put.before) old ≡ put.before =
    ap (take (length put.before)) put.was ∙ take_at put.before put.after (length put.before) refl in
    let back : drop (length put.before) old ≡ put.after =
    ap (drop (length put.before)) put.was ∙ drop_at put.before put.after (length put.before) refl in (
      length put.before,
      (
        rw put.was (omega (arith, length-append put.before put.after)),
        subst (IsAboveAll c.base) (sym front) put.below,
        subst (IsBelowAll (c.base + c.length)) (sym back) put.above,
      ),
      put.now ∙ sym (ap (λ (z : List Chunk). z ++ c ∷ drop (length put.before) old) front
          ∙ ap (λ (z : List Chunk). put.before ++ c ∷ z) back),
    )

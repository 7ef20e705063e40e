-- The spans of retired chunks, as the world has them.
use Rattle.std.proofs.Common.{◌≡◌, ℕ, ◌+◌, ◌<◌, ◌≤◌, ◌⊎◌, All, List, [], ◌∷◌, ◌++◌, length, get_or, set, take, drop, suc, inl, inr, arith, refl}
use Rattle.std.proofs.Common.{◌∙◌, sym, ap, subst}
use Rattle.std.specs.Prelude.{Contains, ◌↔◌}
use Rattle.std.specs.List.{insert}
use Rattle.std.proofs.lemmas.List.{take-append-drop, set-get_or, set_split}
use Rattle.std.proofs.lemmas.List.Elements.{Contains-get_or, Contains-push, Contains-push_cases, Contains-append_left}
use Rattle.std.proofs.lemmas.List.Elements.{Contains-append_right, Contains-append_cases}
use Rattle.nc_list.specs.declared.chunk.Chunk.{Chunk}
use Rattle.nc_list.specs.declared.chunk.ChunkState.{ChunkState}
use Rattle.nc_list.specs.declared.chunk.ChunkState.TheVariants.{Live, Retired}
use Rattle.nc_region.specs.schedules.Spans.{RetiredSpan}
use Rattle.nc_base.specs.Each.{Each}
use Rattle.nc_region.specs.Quiet.{with_retired, retired_spans}
use Rattle.nc_region.specs.Region.{IsLive}
use Rattle.nc_base.proofs.Offered.{each_contains}

-- one chunk's span, if it is retired, before two lists of spans
with_append : (c : Chunk) (s : ChunkState) (xs ys : List RetiredSpan) → with_retired c s (xs ++ ys) ≡ with_retired c s xs ++ ys
with_append c Live xs ys = refl
with_append c (Retired stamp) xs ys = refl

-- the retired spans of two lists are those of the one and then those of the other
pub retired_append : (xs ys : List Chunk) → retired_spans (xs ++ ys) ≡ retired_spans xs ++ retired_spans ys
retired_append [] ys = refl
retired_append (c ∷ xs) ys =
    ap (λ (z : List RetiredSpan). with_retired c c.state z) (retired_append xs ys) ∙ with_append c c.state (retired_spans xs) (retired_spans ys)

-- a live chunk adds no retired span
pub live_none : (c : Chunk) (s : ChunkState) (rest : List RetiredSpan) → IsLive s → with_retired c s rest ≡ rest
live_none c Live rest live = refl
live_none c (Retired stamp) rest live = absurd live

-- a live chunk adds no retired span where it is inserted
pub retired_insert : (chunks : List Chunk) (k : ℕ) (c : Chunk) → IsLive c.state
    → retired_spans (insert chunks k c) ≡ retired_spans chunks
retired_insert chunks k c live =
    retired_append (take k chunks) (c ∷ drop k chunks)
    ∙ (ap (λ (z : List RetiredSpan). retired_spans (take k chunks) ++ z) (live_none c c.state (retired_spans (drop k chunks)) live)
    ∙ (sym (retired_append (take k chunks) (drop k chunks)) ∙ ap retired_spans (take-append-drop k chunks)))

-- what holds of each span still does with that of a retired chunk in front, if it holds of that
with_each : (P : RetiredSpan → Type 0) (c : Chunk) (s : ChunkState) (spans : List RetiredSpan) → c.state ≡ s
    → ((stamp : ℕ) → c.state ≡ Retired stamp → P (record { base = c.base; length = c.length; stamp = stamp })) → Each P spans
    → Each P (with_retired c s spans)
with_each P c Live spans is p h = h
with_each P c (Retired stamp) spans is p h = (p stamp is, h)

-- what holds of each retired chunk's span holds of each retired span
pub retired_each : (P : RetiredSpan → Type 0) (chunks : List Chunk)
    → Each (λ (c : Chunk). (stamp : ℕ) → c.state ≡ Retired stamp → P (record { base = c.base; length = c.length; stamp = stamp })) chunks
    → Each P (retired_spans chunks)
retired_each P [] h = tt
retired_each P (c ∷ rest) h = with_each P c c.state (retired_spans rest) refl h.0 (retired_each P rest h.1)

-- what holds of all that a list contains
pub all_contained : {X : Type 0} (P : X → Type 0) (xs : List X) → ((x : X) → Contains xs x → P x) → All P xs
all_contained P xs f = λ k d lt. f (get_or xs k d) (Contains-get_or xs k d lt)

-- each of the spans of a world is that of a retired chunk
abbrev pub AreSpansOf : List RetiredSpan → List Chunk → Type 0
AreSpansOf spans chunks = (span : RetiredSpan) → Contains spans span → Contains (retired_spans chunks) span

-- what holds of each retired span holds of all of the world's
pub all_spans : (P : RetiredSpan → Type 0) (spans : List RetiredSpan) (chunks : List Chunk) → AreSpansOf spans chunks → Each P (retired_spans chunks)
    → All P spans
all_spans P spans chunks are h = all_contained P spans (λ span has. each_contains P (retired_spans chunks) span h (are span has))

-- the spans of the world and of the chunks are the same, in any order
abbrev pub AreSameSpans : List RetiredSpan → List Chunk → Type 0
AreSameSpans spans chunks = (span : RetiredSpan) → Contains spans span ↔ Contains (retired_spans chunks) span

-- a list with one member is that member
pub one_is : {X : Type 0} (y x : X) → Contains (y ∷ []) x → y ≡ x
one_is {X} y x has = elim (Contains-push_cases [] y x has) [ inl none ↦ absurd (omega (arith, none.1)) | inr same ↦ same ]

-- a member of a list in the middle of which another one is put
pub into_middle : {X : Type 0} (xs ys : List X) (y x : X) → Contains (xs ++ ys) x → Contains (xs ++ y ∷ ys) x
into_middle xs ys y x has =
    elim (Contains-append_cases xs ys x has) [
      | inl l ↦ Contains-append_left xs (y ∷ ys) x l
      | inr r ↦ Contains-append_right xs (y ∷ ys) x (Contains-append_right (y ∷ []) ys x r)
    ]

-- the element in the middle of a list is in it
pub the_middle : {X : Type 0} (xs ys : List X) (y : X) → Contains (xs ++ y ∷ ys) y
the_middle xs ys y = Contains-append_right xs (y ∷ ys) y (Contains-append_left (y ∷ []) ys y (Contains-push [] y))

-- a member of a list is the one in the middle, or one of the others
pub out_of_middle : {X : Type 0} (xs ys : List X) (y x : X) → Contains (xs ++ y ∷ ys) x → (y ≡ x) ⊎ Contains (xs ++ ys) x
out_of_middle xs ys y x has =
    elim (Contains-append_cases xs (y ∷ ys) x has) [
      | inl l ↦ inr (Contains-append_left xs ys x l)
      | inr r ↦ elim
          (Contains-append_cases (y ∷ []) ys x r) [ inl one ↦ inl (one_is y x one) | inr more ↦ inr (Contains-append_right xs ys x more) ]
    ]

-- a list parted at an index
pub parted_at : {X : Type 0} (xs : List X) (k : ℕ) (x : X) → k < length xs → get_or xs k x ≡ x → xs ≡ take k xs ++ x ∷ drop (suc k) xs
parted_at {X} xs k x lt is =
    sym (set-get_or xs k x) ∙ (set_split xs k (get_or xs k x) lt ∙ ap (λ (y : X). take k xs ++ y ∷ drop (suc k) xs) is)

-- the span of a retired chunk is before the others
pub retired_head : (c : Chunk) (s : ChunkState) (stamp : ℕ) (rest : List RetiredSpan) → s ≡ Retired stamp
    → with_retired c s rest ≡ record { base = c.base; length = c.length; stamp = stamp } ∷ rest
retired_head c s stamp rest is = ap (λ (z : ChunkState). with_retired c z rest) is

-- a live chunk is retired: one more span
pub same_spans_retired : (spans : List RetiredSpan) (chunks : List Chunk) (k : ℕ) (c : Chunk) (stamp : ℕ) → k < length chunks
    → get_or chunks k c ≡ c
    → IsLive c.state → AreSameSpans spans chunks
    → AreSameSpans (record { base = c.base; length = c.length; stamp = stamp } ∷ spans) (set chunks k (record c { state = Retired stamp }))
same_spans_retired spans chunks k c stamp lt here live same = λ span.
    let new : RetiredSpan = record { base = c.base; length = c.length; stamp = stamp } in
    let front = retired_spans (take k chunks) in
    let back = retired_spans (drop (suc k) chunks) in
    let old_is : retired_spans chunks ≡ retired_spans (take k chunks) ++ retired_spans (drop (suc k) chunks) =
    ap retired_spans (parted_at chunks k c lt here)
    ∙ (retired_append (take k chunks) (c ∷ drop (suc k) chunks)
    ∙ ap (λ (z : List RetiredSpan). retired_spans (take k chunks) ++ z) (live_none c c.state (retired_spans (drop (suc k) chunks)) live)) in
    let new_is : retired_spans (set chunks k (record c { state = Retired stamp })) ≡ retired_spans (take k chunks) ++
    (record { base = c.base; length = c.length; stamp = stamp } ∷ retired_spans (drop (suc k) chunks)) =
    ap retired_spans (set_split chunks k (record c { state = Retired stamp }) lt)
    ∙ retired_append (take k chunks) (record c { state = Retired stamp } ∷ drop (suc k) chunks) in (
      λ has.
          subst (λ (z : List RetiredSpan). Contains z span) (sym new_is)
          (elim (out_of_middle [] spans (record { base = c.base; length = c.length; stamp = stamp }) span has) [
            | inl is ↦ subst
                (Contains (retired_spans (take k chunks) ++
                (record { base = c.base; length = c.length; stamp = stamp } ∷ retired_spans
                (drop (suc k) chunks)))) is (the_middle (retired_spans (take k chunks)) (retired_spans (drop
                (suc k) chunks)) (record { base = c.base; length = c.length; stamp = stamp }))
            | inr old ↦ into_middle (retired_spans (take k chunks)) (retired_spans (drop (suc k) chunks))
                (record { base = c.base; length = c.length; stamp = stamp }) span
                (subst (λ (z : List RetiredSpan). Contains z span) old_is ((same span).0 old))
          ]),
      λ has.
          elim (out_of_middle (retired_spans (take k chunks)) (retired_spans (drop (suc k) chunks))
          (record { base = c.base; length = c.length; stamp = stamp }) span (subst (λ (z : List RetiredSpan). Contains z span) new_is has)) [
            | inl is ↦ subst (Contains (record { base = c.base; length = c.length; stamp = stamp } ∷ spans)) is
                (the_middle [] spans (record { base = c.base; length = c.length; stamp = stamp }))
            | inr old ↦ into_middle [] spans (record { base = c.base; length = c.length; stamp = stamp }) span
                ((same span).1 (subst (λ (z : List RetiredSpan). Contains z span) (sym old_is) old))
          ],
    )

-- a retired span of the region lies beside the `len` places from `base` on
abbrev pub IsBeside : ℕ → ℕ → RetiredSpan → Type 0
IsBeside base len span = (65536 ≤ span.base) × ((span.base + span.length ≤ base) ⊎ (base + len ≤ span.base))

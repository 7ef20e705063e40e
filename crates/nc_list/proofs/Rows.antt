-- A row of which one part has changed.
use Rattle.std.proofs.Common.{◌≡◌, ℕ, zero, suc, ◌+◌, ◌-◌, ◌<◌, ◌≤◌, List, [], ◌∷◌, ◌++◌, length, get_or, set, take, drop, map, refl, sym, ap, ◌∙◌, arith, subst, append_assoc, append-nil, drop-cons, inl, inr}
use Rattle.std.proofs.lemmas.Bool.{cases_lt}
use Rattle.std.proofs.lemmas.List.{length-append, length-set, drop-set-lt, take-set, get_or-append_right, get_or_default, length-map, take_all}
use Rattle.nc_list.specs.declared.chunk.Chunk.{Chunk}
use Rattle.nc_base.specs.Each.{Each}
use Rattle.nc_list.specs.Chunks.{IsAscending, IsAboveAll, HasBase, IsNextChunk, IsRetired, Meets, live}
use Rattle.nc_list.specs.Stamps.{IsSince, AreSince, BeginsAt}
use Rattle.nc_list.specs.Parts.{HaveSome, OthersHaveSome, IsRow, IsPut, IsPartFor, BeginAbove, all_of, starts_of}
use Rattle.nc_base.proofs.Offered.{each_append, each_take, each_drop, each_get, each_set, each_map, each_in, each_out}
use Rattle.nc_list.proofs.Ascending.{ascending_first, ascending_rest, meets_first, meets_rest}
use Rattle.nc_list.proofs.LowerBounds.{all_below, begins_first}
use Rattle.nc_list.proofs.Pieces.{all_around, all_more, around, around_set, starts_around, starts_more, starts_less, starts_get, starts_low, starts_high, starts_long, some_at, part_is}
use Rattle.nc_list.proofs.Parting.{starts_at, take_seam, drop_seam, starts_before, starts_many}
use Rattle.nc_list.proofs.Combining.{put_within, retired_within, next_within}

-- The part for a place was found in parts that were lent, and then read at its index.
pub record IsFound {X : Type 0} (f : X → List Chunk) (xs : List X) (k at : ℕ) (p : X) : Type 0 where
  pub for : IsPartFor (map f xs) k at
  pub part : f p ≡ get_or (map f xs) k []

-- what is known of a part that was found in parts that were lent, and then read at its index
pub found : {X : Type 0} (f : X → List Chunk) (xs lent : List X) (k at : ℕ) (p : X) → lent ≡ xs → IsPartFor (map f lent) k at → p ≡ get_or xs k p
    → IsFound f xs k at p
found {X = X} f xs lent k at p loan near is =
    let for = subst (λ (z : List X). IsPartFor (map f z) k at) loan near in
    record { for = for; part = part_is f xs k p (omega (arith, for.inside, length-map xs f)) is }

-- all chunks, around a part
pub all_at : (parts : List (List Chunk)) (k : ℕ) → k < length parts
    → all_of parts ≡ all_of (take k parts) ++ (get_or parts k [] ++ all_of (drop (suc k) parts))
all_at parts k lt = ap all_of (around parts k [] lt) ∙ all_around (take k parts) (get_or parts k []) (drop (suc k) parts)

-- a part's chunks are ascending
pub rise_here : (parts : List (List Chunk)) (k : ℕ) → k < length parts → IsAscending 0 (all_of parts) → IsAscending 0 (get_or parts k [])
rise_here parts k lt ascending =
    ascending_first 0 (get_or parts k []) (all_of (drop (suc k) parts))
    (ascending_rest 0 (all_of (take k parts)) (get_or parts k [] ++ all_of (drop (suc k) parts))
    (subst (IsAscending 0) (all_at parts k lt) ascending))

-- a span that overlaps no chunk of a row overlaps none of a part
pub free_here : (parts : List (List Chunk)) (k base len : ℕ) → k < length parts → ¬ Meets base len (all_of parts)
    → ¬ Meets base len (get_or parts k [])
free_here parts k base len lt free = λ m.
    free (subst (Meets base len) (sym (all_at parts k lt))
    (meets_rest base len (all_of (take k parts)) (get_or parts k [] ++ all_of (drop (suc k) parts))
    (meets_first base len (get_or parts k []) (all_of (drop (suc k) parts)) m)))

-- a part has no more chunks than the row
pub few_here : (parts : List (List Chunk)) (k : ℕ) → k < length parts → length (get_or parts k []) ≤ length (all_of parts)
few_here parts k lt =
    omega (
      arith,
      ap (λ (z : List Chunk). length z) (all_at parts k lt),
      length-append (all_of (take k parts)) (get_or parts k [] ++ all_of (drop (suc k) parts)),
      length-append (get_or parts k []) (all_of (drop (suc k) parts)),
    )

-- the starts where a part has one chunk more
pub raised : (parts : List (List Chunk)) (starts : List ℕ) (k : ℕ) (new : List Chunk) → k < length parts → starts ≡ starts_of 0 parts
    → length new ≡ length (get_or parts k []) + 1
    → take (k + 1) starts ++ map (λ (n : ℕ). n + 1) (drop (k + 1) starts) ≡ starts_of 0 (set parts k new)
raised parts starts k new lt are more =
    let n : ℕ = get_or starts k 0 in
    let before = starts_of 0 (take k parts) in
    let after = drop (suc k) parts in
    let here = get_or parts k [] in
    let rest = starts_of (n + length here) after in
    let count : n ≡ length (all_of (take k parts)) =
    omega (arith, ap (λ (z : List ℕ). get_or z k 0) are, starts_get 0 parts k 0 lt) in
    let sum : n + length here + 1 ≡ n + length new = omega (arith, more) in
    ap (λ (z : List ℕ). take (k + 1) z ++ map (λ (m : ℕ). m + 1) (drop (k + 1) z)) (starts_at parts starts k n lt are refl)
    ∙ (ap (λ (z : List ℕ). z ++ map (λ (m : ℕ). m + 1) (drop (k + 1) (before ++ n ∷ rest))) (take_seam before n rest k (starts_before parts k lt))
    ∙ (ap (λ (z : List ℕ). (before ++ n ∷ []) ++ map (λ (m : ℕ). m + 1) z) (drop_seam before n rest k (starts_before parts k lt))
    ∙ (ap (λ (z : List ℕ). (before ++ n ∷ []) ++ z) (sym (starts_more (n + length here) 1 after) ∙ ap (λ (m : ℕ). starts_of m after) sum)
    ∙ (append_assoc before (n ∷ []) (starts_of (n + length new) after)
    ∙ sym (ap (starts_of 0) (around_set parts k new lt) ∙ starts_around (take k parts) new after n count)))))

-- the starts where a part has some chunks fewer
pub lowered : (parts : List (List Chunk)) (starts : List ℕ) (k by : ℕ) (new : List Chunk) → k < length parts → starts ≡ starts_of 0 parts
    → length (get_or parts k []) ≡ length new + by
    → take (k + 1) starts ++ map (λ (n : ℕ). n - by) (drop (k + 1) starts) ≡ starts_of 0 (set parts k new)
lowered parts starts k by new lt are fewer =
    let n : ℕ = get_or starts k 0 in
    let before = starts_of 0 (take k parts) in
    let after = drop (suc k) parts in
    let here = get_or parts k [] in
    let rest = starts_of (n + length here) after in
    let count : n ≡ length (all_of (take k parts)) =
    omega (arith, ap (λ (z : List ℕ). get_or z k 0) are, starts_get 0 parts k 0 lt) in
    let sum : n + length here ≡ n + length new + by = omega (arith, fewer) in
    ap (λ (z : List ℕ). take (k + 1) z ++ map (λ (m : ℕ). m - by) (drop (k + 1) z)) (starts_at parts starts k n lt are refl)
    ∙ (ap (λ (z : List ℕ). z ++ map (λ (m : ℕ). m - by) (drop (k + 1) (before ++ n ∷ rest))) (take_seam before n rest k (starts_before parts k lt))
    ∙ (ap (λ (z : List ℕ). (before ++ n ∷ []) ++ map (λ (m : ℕ). m - by) z) (drop_seam before n rest k (starts_before parts k lt))
    ∙ (ap (λ (z : List ℕ). (before ++ n ∷ []) ++ z)
    (ap (λ (m : ℕ). map (λ (i : ℕ). i - by) (starts_of m after)) sum ∙ starts_less (n + length new) by after)
    ∙ (append_assoc before (n ∷ []) (starts_of (n + length new) after)
    ∙ sym (ap (starts_of 0) (around_set parts k new lt) ∙ starts_around (take k parts) new after n count)))))

-- each start behind a part is at least as high as the number of chunks to take from the part
pub enough_behind : (parts : List (List Chunk)) (starts : List ℕ) (k by : ℕ) → k < length parts → starts ≡ starts_of 0 parts
    → by ≤ length (get_or parts k []) → Each (λ (n : ℕ). by ≤ n) (drop (k + 1) starts)
enough_behind parts starts k by lt are le =
    let n : ℕ = get_or starts k 0 in
    let before = starts_of 0 (take k parts) in
    let after = drop (suc k) parts in
    let rest = starts_of (n + length (get_or parts k [])) after in
    subst (Each (λ (m : ℕ). by ≤ m))
    (sym (ap (drop (k + 1)) (starts_at parts starts k n lt are refl) ∙ drop_seam before n rest k (starts_before parts k lt)))
    (each_map (λ (m : ℕ). n + length (get_or parts k []) ≤ m) (λ (m : ℕ). by ≤ m) (λ m h. omega (arith, h, le)) rest
    (starts_low (n + length (get_or parts k [])) after))

-- the starts stay where a part is set to one with as many chunks
pub starts_stay : (parts : List (List Chunk)) (k : ℕ) (new : List Chunk) → k < length parts → length new ≡ length (get_or parts k [])
    → starts_of 0 parts ≡ starts_of 0 (set parts k new)
starts_stay parts k new lt same =
    let n : ℕ = length (all_of (take k parts)) in
    ap (starts_of 0) (around parts k [] lt)
    ∙ (starts_around (take k parts) (get_or parts k []) (drop (suc k) parts) n refl
    ∙ (ap (λ (m : ℕ). starts_of 0 (take k parts) ++ n ∷ starts_of (n + m) (drop (suc k) parts)) (sym same)
    ∙ sym (ap (starts_of 0) (around_set parts k new lt) ∙ starts_around (take k parts) new (drop (suc k) parts) n refl)))

-- each part still has a chunk where one is set to a part with a chunk
pub set_have : (parts : List (List Chunk)) (k : ℕ) (new : List Chunk) → HaveSome parts → 0 < length new → HaveSome (set parts k new)
set_have parts k new have some = λ several.
    each_set (λ (p : List Chunk). 0 < length p) parts k new (have (omega (arith, several, length-set parts k new))) some

-- all other parts still have a chunk where one part is set
pub set_others : (parts : List (List Chunk)) (k : ℕ) (new : List Chunk) → HaveSome parts → OthersHaveSome (set parts k new) k
set_others parts k new have = λ several.
    let all = have (omega (arith, several, length-set parts k new)) in (
      subst (Each (λ (p : List Chunk). 0 < length p)) (sym (take-set parts k new)) (each_take (λ (p : List Chunk). 0 < length p) k parts all),
      subst (Each (λ (p : List Chunk). 0 < length p)) (sym (drop-set-lt (k + 1) parts k new (omega arith)))
          (each_drop (λ (p : List Chunk). 0 < length p) (k + 1) parts all),
    )

-- the first base of all parts is that of the first one
pub begins_all : (parts : List (List Chunk)) (first : ℕ) → 0 < length parts → HaveSome parts → BeginsAt first (get_or parts 0 [])
    → BeginsAt first (all_of parts)
begins_all [] first some have begins = absurd (omega (arith, some))
begins_all (p ∷ []) first some have begins = subst (BeginsAt first) (sym (append-nil p)) begins
begins_all (p ∷ (q ∷ parts)) first some have begins =
    begins_first first p (all_of (q ∷ parts)) (have (omega arith)).0 begins

-- a chunk put into a part
pub put_all : (parts : List (List Chunk)) (k : ℕ) (new : List Chunk) (base len : ℕ) → IsPartFor parts k base
    → ¬ Meets base len (all_of parts) → IsPut (get_or parts k []) new (live base len)
    → IsPut (all_of parts) (all_of (set parts k new)) (live base len)
put_all parts k new base len for free put =
    let next : k + 1 ≡ suc k = omega arith in
    let above = subst (λ (n : ℕ). BeginAbove base (all_of (drop n parts))) next for.above in
    let is = around parts k [] for.inside in
    let now = around_set parts k new for.inside in
    subst (λ (z : List (List Chunk)). IsPut (all_of z) (all_of (set parts k new)) (live base len)) (sym is)
    (subst (λ (z : List (List Chunk)). IsPut (all_of (take k parts ++ get_or parts k [] ∷ drop (suc k) parts)) (all_of z) (live base len)) (sym now)
    (put_within (take k parts) (get_or parts k []) new (drop (suc k) parts) base len for.below above
    (λ m. free (subst (λ (z : List (List Chunk)). Meets base len (all_of z)) (sym is) m)) put))

-- a list with a chunk put in is longer by one
pub put_long : (old new : List Chunk) (c : Chunk) → IsPut old new c → length new ≡ length old + 1
put_long old new c put =
    omega (
      arith,
      ap (λ (z : List Chunk). length z) put.was,
      ap (λ (z : List Chunk). length z) put.now,
      length-append put.before put.after,
      length-append put.before (c ∷ put.after),
    )

-- a lower bound of stamps still is one with a live chunk put in
pub put_since : (old new : List Chunk) (base len oldest : ℕ) → IsPut old new (live base len) → AreSince oldest old → AreSince oldest new
put_since old new base len oldest put since =
    subst (AreSince oldest) (sym put.now)
    (each_in (λ (d : Chunk). IsSince oldest d.state) put.before put.after (live base len) (subst (AreSince oldest) put.was since) tt)

-- a chunk retired in a part
pub retired_all : (parts : List (List Chunk)) (k : ℕ) (new : List Chunk) (base stamp : ℕ) → k < length parts
    → IsRetired (get_or parts k []) new base stamp → IsRetired (all_of parts) (all_of (set parts k new)) base stamp
retired_all parts k new base stamp lt so =
    subst (λ (z : List (List Chunk)). IsRetired (all_of z) (all_of (set parts k new)) base stamp) (sym (around parts k [] lt))
    (subst (λ (z : List (List Chunk)). IsRetired (all_of (take k parts ++ get_or parts k [] ∷ drop (suc k) parts)) (all_of z) base stamp)
    (sym (around_set parts k new lt)) (retired_within (take k parts) (get_or parts k []) new (drop (suc k) parts) base stamp so))

pub retired_long : (old new : List Chunk) (base stamp : ℕ) → IsRetired old new base stamp → length new ≡ length old
retired_long old new base stamp so =
    ap (λ (z : List Chunk). length z) so.now
    ∙ (length-append so.before _ ∙ sym (ap (λ (z : List Chunk). length z) so.was ∙ length-append so.before (so.chunk ∷ so.after)))

begins_with : (before after : List Chunk) (a b : Chunk) (first : ℕ) → a.base ≡ b.base → BeginsAt first (before ++ a ∷ after)
    → BeginsAt first (before ++ b ∷ after)
begins_with [] after a b first same begins = begins ∙ same
begins_with (c ∷ before) after a b first same begins = begins

pub retired_begins : (old new : List Chunk) (base stamp first : ℕ) → IsRetired old new base stamp → BeginsAt first old → BeginsAt first new
retired_begins old new base stamp first so begins =
    subst (BeginsAt first) (sym so.now) (begins_with so.before so.after so.chunk _ first refl (subst (BeginsAt first) so.was begins))

pub retired_since : (old new : List Chunk) (base stamp low oldest : ℕ) → IsRetired old new base stamp → low ≤ oldest → low ≤ stamp
    → AreSince oldest old → AreSince low new
retired_since old new base stamp low oldest so le also since =
    subst (AreSince low) (sym so.now)
    (each_in (λ (d : Chunk). IsSince low d.state) so.before so.after _
    (each_out (λ (d : Chunk). IsSince low d.state) so.before so.after so.chunk (all_below low oldest _ le (subst (AreSince oldest) so.was since)))
    also)

-- an element of the first of two lists, by its index in both together
get_left : (xs ys : List Chunk) (i : ℕ) (d : Chunk) → i < length xs → get_or (xs ++ ys) i d ≡ get_or xs i d
get_left [] ys i d lt = absurd (omega (arith, lt))
get_left (x ∷ xs) ys zero d lt = refl
get_left (x ∷ xs) ys (suc i) d lt = get_left xs ys i d (omega (arith, lt))

has_within : (xs here ys : List Chunk) (base : ℕ) → IsAboveAll base xs → BeginAbove base ys → HasBase (xs ++ (here ++ ys)) base
    → HasBase here base
has_within xs here ys base below above has =
    let c : Chunk = has.0 in
    let i : ℕ = has.1.0 in
    let there : get_or (xs ++ (here ++ ys)) i c ≡ c = has.1.2 in
    elim (cases_lt i (length xs)) [
      | inl first ↦
          let at = sym (get_left xs (here ++ ys) i c first) ∙ there in
          absurd (omega (
            arith,
            subst (λ (d : Chunk). d.base + d.length ≤ base) at
                (each_get (λ (d : Chunk). d.base + d.length ≤ base) xs i c first below),
            has.2,
            has.3,
          ))
      | inr later ↦
          let j : ℕ = i - length xs in
          let rest = sym (get_or-append_right xs (here ++ ys) (length xs) i c refl later) ∙ there in
          elim (cases_lt j (length here)) [
            | inl middle ↦ (c, (j, middle, sym (get_left here ys j c middle) ∙ rest), has.2, has.3)
            | inr last ↦
                let at = sym (get_or-append_right here ys (length here) j c refl last) ∙ rest in
                let inside : j - length here < length ys =
                omega (arith, has.1.1, length-append xs (here ++ ys), length-append here ys, later, last) in
                absurd (omega (
                  arith,
                  subst (λ (d : Chunk). base < d.base) at
                      (each_get (λ (d : Chunk). base < d.base) ys (j - length here) c inside above),
                  has.2,
                ))
          ]
    ]

pub has_here : (parts : List (List Chunk)) (k base : ℕ) → IsPartFor parts k base → HasBase (all_of parts) base
    → HasBase (get_or parts k []) base
has_here parts k base for has =
    let next : k + 1 ≡ suc k = omega arith in
    has_within (all_of (take k parts)) (get_or parts k []) (all_of (drop (suc k) parts)) base for.below
    (subst (λ (n : ℕ). BeginAbove base (all_of (drop n parts))) next for.above)
    (subst (λ (z : List Chunk). HasBase z base) (all_at parts k for.inside) has)

-- the chunk at an index is in the part that was found for it
pub index_within : (parts : List (List Chunk)) (starts : List ℕ) (i k n : ℕ) → starts ≡ starts_of 0 parts → k < length parts
    → i < length (all_of parts) → n ≡ get_or starts k 0 → n ≤ i → (k + 1 < length starts → i < get_or starts (k + 1) 0)
    → i - n < length (get_or parts k [])
index_within parts starts i k n are lt inside is le end =
    let count : n ≡ length (all_of (take k parts)) =
    omega (arith, is, ap (λ (z : List ℕ). get_or z k 0) are, starts_get 0 parts k 0 lt) in
    let more : length (all_of (take (k + 1) parts)) ≡ n + length (get_or parts k []) =
    ap (λ (z : List Chunk). length z) (all_more parts k lt)
    ∙ (length-append (all_of (take k parts)) (get_or parts k []) ∙ ap (λ (m : ℕ). m + length (get_or parts k [])) (sym count)) in
    let many : length starts ≡ length parts = ap (λ (z : List ℕ). length z) are ∙ starts_long 0 parts in
    elim (cases_lt (k + 1) (length parts)) [
      | inl middle ↦
          omega (
            arith,
            le,
            more,
            end (omega (arith, middle, many)),
            ap (λ (z : List ℕ). get_or z (k + 1) 0) are,
            starts_get 0 parts (k + 1) 0 middle,
          )
      | inr last ↦
          omega (arith, le, more, inside, ap (λ (z : List (List Chunk)). length (all_of z)) (take_all (k + 1) parts last))
    ]

pub index_here : (parts : List (List Chunk)) (starts : List ℕ) (i k n : ℕ) (d : Chunk) → starts ≡ starts_of 0 parts → k < length parts
    → n ≡ get_or starts k 0 → n ≤ i → i - n < length (get_or parts k [])
    → get_or (get_or parts k []) (i - n) d ≡ get_or (all_of parts) i d
index_here parts starts i k n d are lt is le inside =
    let count : length (all_of (take k parts)) ≡ n =
    omega (arith, is, ap (λ (z : List ℕ). get_or z k 0) are, starts_get 0 parts k 0 lt) in
    sym (ap (λ (z : List Chunk). get_or z i d) (all_at parts k lt)
    ∙ (get_or-append_right (all_of (take k parts)) (get_or parts k [] ++ all_of (drop (suc k) parts)) n i d count le
    ∙ get_left (get_or parts k []) (all_of (drop (suc k) parts)) (i - n) d inside))

-- where there is a chunk there is a part
pub some_part : (parts : List (List Chunk)) (i : ℕ) → i < length (all_of parts) → 0 < length parts
some_part [] i lt = absurd (omega (arith, lt))
some_part (p ∷ parts) i lt = omega arith

-- the chunk at an index of a row, in the part that was read
pub found_at : {X : Type 0} (f : X → List Chunk) (xs : List X) (read starts : List ℕ) (all : List Chunk) (i k n : ℕ) (p : X)
    → all_of (map f xs) ≡ all → starts ≡ starts_of 0 (map f xs) → read ≡ starts → k < length read → n ≡ get_or starts k n
    → get_or read k 0 ≤ i → (k + 1 < length read → i < get_or read (k + 1) 0) → p ≡ get_or xs k p → i < length all
    → (i - n < length (f p)) × ((d : Chunk) → get_or (f p) (i - n) d ≡ get_or all i d)
found_at f xs read starts all i k n p view are same lt is start end here inside =
    let parts = map f xs in
    let many = starts_many f xs starts are in
    let long = length-map xs f in
    let size = ap (λ (z : List ℕ). length z) same in
    let within : k < length parts = omega (arith, lt, many, long, size) in
    let number : n ≡ get_or starts k 0 = is ∙ get_or_default starts k n 0 (omega (arith, lt, size)) in
    let le : n ≤ i = omega (arith, number, start, ap (λ (z : List ℕ). get_or z k 0) same) in
    let part = part_is f xs k p (omega (arith, within, long)) here in
    let found = index_within parts starts i k n are within (omega (arith, inside, ap (λ (z : List Chunk). length z) view)) number le
    (λ more. omega (arith, end (omega (arith, more, size)), ap (λ (z : List ℕ). get_or z (k + 1) 0) same)) in (
      omega (arith, found, ap (λ (z : List Chunk). length z) part),
      λ d. ap (λ (z : List Chunk). get_or z (i - n) d) part
          ∙ (index_here parts starts i k n d are within number le found ∙ ap (λ (z : List Chunk). get_or z i d) view),
    )

-- a row in which a chunk was retired
pub retired_row : (parts : List (List Chunk)) (starts : List ℕ) (count first oldest low k : ℕ) (new : List Chunk) (base stamp : ℕ)
    → k < length parts → IsRow parts starts count first oldest → IsRetired (get_or parts k []) new base stamp → low ≤ oldest → low ≤ stamp
    → IsRow (set parts k new) starts count first low
retired_row parts starts count first oldest low k new base stamp lt row so le also =
    let same = retired_long (get_or parts k []) new base stamp so in
    let whole = retired_all parts k new base stamp lt so in
    record {
      starts_are = row.starts_are ∙ starts_stay parts k new lt same;
      some = λ several.
          set_have parts k new row.some (omega (arith, same, some_at parts k row.some (omega (arith, several, length-set parts k new)) lt))
          several;
      count_is = row.count_is ∙ sym (retired_long (all_of parts) (all_of (set parts k new)) base stamp whole);
      begins = retired_begins (all_of parts) (all_of (set parts k new)) base stamp first whole row.begins;
      since = retired_since (all_of parts) (all_of (set parts k new)) base stamp low oldest whole le also row.since;
    }

-- the chunk that has a place, in the part for it
pub next_all : (parts : List (List Chunk)) (k at : ℕ) (c : Chunk) → IsPartFor parts k at → IsNextChunk (get_or parts k []) at c
    → IsNextChunk (all_of parts) at c
next_all parts k at c for so =
    subst (λ (z : List (List Chunk)). IsNextChunk (all_of z) at c) (sym (around parts k [] for.inside))
    (next_within (take k parts) (get_or parts k []) (drop (suc k) parts) at c for.below so)

-- all chunks up to the part for a place end at or below the place if those of the part do
pub passed_all : (parts : List (List Chunk)) (k at : ℕ) → IsPartFor parts k at → IsAboveAll at (get_or parts k [])
    → IsAboveAll at (all_of (take (k + 1) parts))
passed_all parts k at for below =
    subst (IsAboveAll at) (sym (all_more parts k for.inside))
    (each_append (λ (d : Chunk). d.base + d.length ≤ at) (all_of (take k parts)) (get_or parts k []) for.below below)

-- the first chunk of the next part is the next chunk of a place, if all before it end at or below the place
first_next : (before : List (List Chunk)) (here : List Chunk) (after : List (List Chunk)) (at : ℕ) (c : Chunk)
    → IsAboveAll at (all_of before) → 0 < length here → c ≡ get_or here 0 c → BeginAbove at (here ++ all_of after)
    → IsNextChunk (all_of (before ++ here ∷ after)) at c
first_next before [] after at c below some is above = absurd (omega (arith, some))
first_next before (d ∷ here) after at c below some is above = record {
  before = all_of before;
  after = here ++ all_of after;
  parts = all_around before (d ∷ here) after ∙ ap (λ (x : Chunk). all_of before ++ x ∷ (here ++ all_of after)) (sym is);
  below = below;
  above = omega (arith, above.0, ap (λ (x : Chunk). x.base) is);
}

pub next_first : (parts : List (List Chunk)) (k at : ℕ) (c : Chunk) → IsPartFor parts k at → IsAboveAll at (get_or parts k [])
    → k + 1 < length parts → 0 < length (get_or parts (k + 1) []) → c ≡ get_or (get_or parts (k + 1) []) 0 c → IsNextChunk (all_of parts) at c
next_first parts k at c for below lt some is =
    subst (λ (z : List (List Chunk)). IsNextChunk (all_of z) at c) (sym (around parts (k + 1) [] lt))
    (first_next (take (k + 1) parts) (get_or parts (k + 1) []) (drop (suc (k + 1)) parts) at c (passed_all parts k at for below) some is
    (subst (λ (z : List (List Chunk)). BeginAbove at (all_of z)) (drop-cons parts (k + 1) [] lt) for.above))

pub next_none : (parts : List (List Chunk)) (k at : ℕ) → IsPartFor parts k at → IsAboveAll at (get_or parts k []) → length parts ≤ k + 1
    → IsAboveAll at (all_of parts)
next_none parts k at for below last =
    subst (λ (z : List (List Chunk)). IsAboveAll at (all_of z)) (take_all (k + 1) parts last) (passed_all parts k at for below)

-- a row whose parts have changed, but not its chunks
pub row_same : (olds news : List (List Chunk)) (starts now : List ℕ) (count first oldest : ℕ) → IsRow olds starts count first oldest
    → all_of news ≡ all_of olds → now ≡ starts_of 0 news → HaveSome news → IsRow news now count first oldest
row_same olds news starts now count first oldest row same are have = record {
  starts_are = are;
  some = have;
  count_is = row.count_is ∙ sym (ap (λ (z : List Chunk). length z) same);
  begins = subst (BeginsAt first) (sym same) row.begins;
  since = subst (AreSince oldest) (sym same) row.since;
}

-- a row into which a chunk was put
pub row_put : (parts : List (List Chunk)) (starts : List ℕ) (count first oldest k : ℕ) (new : List Chunk) (base len front : ℕ)
    → IsRow parts starts count first oldest → IsPartFor parts k base → ¬ Meets base len (all_of parts)
    → IsPut (get_or parts k []) new (live base len) → BeginsAt front (get_or (set parts k new) 0 [])
    → IsRow (set parts k new) (take (k + 1) starts ++ map (λ (n : ℕ). n + 1) (drop (k + 1) starts)) (count + 1) front oldest
row_put parts starts count first oldest k new base len front row for free put begins =
    let more = put_long (get_or parts k []) new (live base len) put in
    let whole = put_all parts k new base len for free put in
    let have = set_have parts k new row.some (omega (arith, more)) in
    record {
      starts_are = raised parts starts k new for.inside row.starts_are more;
      some = have;
      count_is = omega (arith, row.count_is, put_long (all_of parts) (all_of (set parts k new)) (live base len) whole);
      begins = begins_all (set parts k new) front (omega (arith, for.inside, length-set parts k new)) have begins;
      since = put_since (all_of parts) (all_of (set parts k new)) base len oldest whole row.since;
    }

-- no start is beyond the number of chunks
pub starts_few : (parts : List (List Chunk)) (starts : List ℕ) (most : ℕ) → starts ≡ starts_of 0 parts → length (all_of parts) < most
    → Each (λ (n : ℕ). n < most) starts
starts_few parts starts most are few =
    subst (Each (λ (n : ℕ). n < most)) (sym are)
    (each_map (λ (n : ℕ). n ≤ 0 + length (all_of parts)) (λ (n : ℕ). n < most) (λ n h. omega (arith, h, few)) (starts_of 0 parts)
    (starts_high 0 parts))

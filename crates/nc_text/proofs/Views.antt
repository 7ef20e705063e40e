-- What a text is seen as, after a change of its table.
use Rattle.std.proofs.Common.{◌≡◌, ℕ, ◌+◌, ◌-◌, ◌*◌, ◌/◌, ◌%◌, ◌<◌, ◌≤◌, Bool, true, false, suc, zero, List, ◌∷◌, ◌++◌}
use Rattle.std.proofs.Common.{map, length, get_or, take, drop, replicate, None, arith, ◌⊎◌, refl, sym, ap, subst, ◌∙◌, inl}
use Rattle.std.proofs.Common.{inr, min}
use Rattle.std.specs.Option.{is_some}
use Rattle.std.proofs.lemmas.Bool.{cases_lt}
use Rattle.std.proofs.lemmas.Bool.Decides.{nat_tests}
use Rattle.std.proofs.lemmas.List.{take_at, ext_get_or, get_or-replicate, get_or_past, length-replicate}
use Rattle.std.proofs.lemmas.List.FromFn.{length-map-range_with_len, get_or-map-range_with_len}
use Rattle.nc_decode.specs.Bundles.{IsLawfulLimit}
use Rattle.nc_decode.specs.declared.instruction.Mark.{Mark}
use Rattle.nc_decode.specs.declared.instruction.Mark.TheVariants.{Unmarked}
use Rattle.nc_text.specs.machinery.Pages.{Slot, byte_if_made, mark_if_made, byte_of, mark_in_pages, text_of}
use Rattle.nc_text.specs.Places.{InRegion, SpanInRegion, byte_at}
use Rattle.nc_text.specs.Marks.{IsClosed, mark_at}
use Rattle.nc_text.specs.MarkedText.{MarkedText, IsText, unused_mark, unused_text}
use Rattle.nc_text.specs.Ready.{TextState, IsReady, AreReady, GetsReady, SharesPage, unmade_pages}
use Rattle.nc_text.proofs.Tables.{same_all, made_at, unused_mark_on}

-- a text has as many bytes as places
pub bytes_long : (pages : List Slot) (size : ℕ) → length (text_of pages size).marked.bytes ≡ size
bytes_long pages size = length-map-range_with_len (byte_of pages) 0 size

-- a text has as many marks as places
pub marks_long : (pages : List Slot) (size : ℕ) → length (text_of pages size).marked.marks ≡ size
marks_long pages size = length-map-range_with_len (mark_in_pages pages) 0 size

-- what is seen at a place
pub byte_seen : (pages : List Slot) (size k : ℕ) → k < size → get_or (text_of pages size).marked.bytes k 0 ≡ byte_of pages k
byte_seen pages size k inside = get_or-map-range_with_len (byte_of pages) 0 size k k 0 inside (omega arith)

-- the mark of a place of a text is that in its pages
pub mark_seen : (pages : List Slot) (size k : ℕ) → k < size → get_or (text_of pages size).marked.marks k Unmarked ≡ mark_in_pages pages k
mark_seen pages size k inside = get_or-map-range_with_len (mark_in_pages pages) 0 size k k Unmarked inside (omega arith)

-- the table of a text was lent, and what the text is seen as
pub record IsLent (old lent : List Slot) (size : ℕ) (now : TextState) : Type 0 where
  pub loan : lent ≡ old
  pub view : text_of old size ≡ now
  pub kept : IsText (text_of old size).marked × (length old ≡ (size + 4095) / 4096)

-- the lengths of a table that was lent, and of its text
pub lent_long : {old lent : List Slot} {size : ℕ} {now : TextState} → IsLent old lent size now
    → (length lent ≡ (size + 4095) / 4096) × (length now.marked.bytes ≡ size)
lent_long {old = old} {size = size} is = (
  ap (λ (ps : List Slot). length ps) is.loan ∙ is.kept.1,
  sym (ap (λ (t : TextState). length t.marked.bytes) is.view) ∙ bytes_long old size,
)

-- the pages that are made in a table that was lent
pub lent_made : {old lent : List Slot} {size : ℕ} {now : TextState} → IsLent old lent size now → map is_some lent ≡ now.made
lent_made is = ap (λ (ps : List Slot). map is_some ps) is.loan ∙ ap (λ (t : TextState). t.made) is.view

-- the page of a place of the region is in a table that was lent
pub page_inside : {old lent : List Slot} {size : ℕ} {now : TextState} → IsLent old lent size now → (at : ℕ) → InRegion now.marked.bytes at
    → (at - 65536) / 4096 < length lent
page_inside is at inside = let long = lent_long is in omega (arith, inside.0, inside.1, long.0, long.1)

-- a byte in a table that was lent is the text's
pub byte_here : {old lent : List Slot} {size : ℕ} {now : TextState} → IsLent old lent size now → (at : ℕ) → InRegion now.marked.bytes at
    → byte_of lent (at - 65536) ≡ byte_at now.marked.bytes at
byte_here {old = old} {size = size} is at inside =
    ap (λ (ps : List Slot). byte_of ps (at - 65536)) is.loan
    ∙ (sym (byte_seen old size (at - 65536) (omega (arith, inside.0, inside.1, (lent_long is).1)))
    ∙ ap (λ (t : TextState). byte_at t.marked.bytes at) is.view)

-- a mark in a table that was lent is the text's
pub mark_here : {old lent : List Slot} {size : ℕ} {now : TextState} → IsLent old lent size now → (at : ℕ) → InRegion now.marked.bytes at
    → mark_in_pages lent (at - 65536) ≡ mark_at now.marked.marks at
mark_here {old = old} {size = size} is at inside =
    ap (λ (ps : List Slot). mark_in_pages ps (at - 65536)) is.loan
    ∙ (sym (mark_seen old size (at - 65536) (omega (arith, inside.0, inside.1, (lent_long is).1)))
    ∙ ap (λ (t : TextState). mark_at t.marked.marks at) is.view)

-- the places of a bundle are all in a text
pub bundle_inside : {old lent : List Slot} {size : ℕ} {now : TextState} → IsLent old lent size now → (at k : ℕ)
    → InRegion now.marked.bytes at → at % 32 + k < 32 → InRegion now.marked.bytes (at + k)
bundle_inside {now = now} is at k inside small =
    let same = ap (λ (t : TextState). length t.marked.bytes) is.view in
    let whole_bundles : length now.marked.bytes % 32 ≡ 0 = omega (arith, same, is.kept.0.lawful.0) in
    (omega (arith, inside.0), omega (arith, whole_bundles, small, inside.0, inside.1))

-- a byte of a bundle in a table that was lent is the text's
pub byte_there : {old lent : List Slot} {size : ℕ} {now : TextState} → IsLent old lent size now → (at k : ℕ)
    → InRegion now.marked.bytes at → at % 32 + k < 32 → byte_of lent (at - 65536 + k) ≡ byte_at now.marked.bytes (at + k)
byte_there {lent = lent} is at k inside small =
    ap (λ (j : ℕ). byte_of lent j) {x = at - 65536 + k} {y = at + k - 65536} (omega (arith, inside.0))
    ∙ byte_here is (at + k) (bundle_inside is at k inside small)

-- a mark of a bundle in a table that was lent is the text's
pub mark_there : {old lent : List Slot} {size : ℕ} {now : TextState} → IsLent old lent size now → (at k : ℕ)
    → InRegion now.marked.bytes at → at % 32 + k < 32 → mark_in_pages lent (at - 65536 + k) ≡ mark_at now.marked.marks (at + k)
mark_there {lent = lent} is at k inside small =
    ap (λ (j : ℕ). mark_in_pages lent j) {x = at - 65536 + k} {y = at + k - 65536} (omega (arith, inside.0))
    ∙ mark_here is (at + k) (bundle_inside is at k inside small)

-- a span in the region that isn't empty begins and ends in it
pub span_within : (bytes : List ℕ) (at len : ℕ) → SpanInRegion bytes at len → 0 < len → (65536 ≤ at) × (at - 65536 + len ≤ length bytes)
span_within bytes at len inside some =
    let first = inside 0 some in
    let last = inside (len - 1) (omega (arith, some)) in
    (omega (arith, first.0), omega (arith, first.0, last.1))

-- what is seen of a text, by its parts
abbrev pub state : MarkedText → List Bool → TextState
state marked made = record { marked = marked; made = made }

-- a marked text by its parts
abbrev pub both : List ℕ → List Mark → MarkedText
both bytes marks = record { bytes = bytes; marks = marks }

-- equal parts make equal states
pub state_is : (bs cs : List ℕ) (ms ns : List Mark) (ds es : List Bool) → bs ≡ cs → ms ≡ ns → ds ≡ es
    → state (both bs ms) ds ≡ state (both cs ns) es
state_is bs cs ms ns ds es b m d =
    ap (λ (xs : List ℕ). state (both xs ms) ds) b
    ∙ (ap (λ (xs : List Mark). state (both cs xs) ds) m ∙ ap (λ (xs : List Bool). state (both cs ns) xs) d)

-- what a table's fields have to be where it is seen as this text
pub record IsSeenAs (table : List Slot) (size : ℕ) (new : TextState) : Type 0 where
  pub marked : (text_of table size).marked ≡ new.marked
  pub made : map is_some table ≡ new.made
  pub whole : IsText (text_of table size).marked
  pub long : length table ≡ (size + 4095) / 4096

-- a table that was lent whole and came back
abbrev pub put_back : List Slot → List Slot → ℕ → List Slot
put_back old new n = take n (new ++ drop (length new) old)

-- a table that was lent whole and came back is seen as the bytes, marks and pages that it has, if they are closed
pub changed : {old lent : List Slot} {size : ℕ} {now : TextState} → IsLent old lent size now → (new : List Slot) (n : ℕ) (bytes : List ℕ)
    (marks : List Mark) (made : List Bool) → n ≡ length old → length new ≡ length lent → (text_of new size).marked.bytes ≡ bytes
    → (text_of new size).marked.marks ≡ marks → map is_some new ≡ made → IsClosed bytes marks
    → IsSeenAs (put_back old new n) size (state (both bytes marks) made)
changed {old = old} {size = size} is new n bytes marks made many as_many bytes_are marks_are made_is closed =
    let long : length new ≡ length old = as_many ∙ ap (λ (ps : List Slot). length ps) is.loan in
    let marked = ap (λ (t : TextState). t.marked) (state_is _ _ _ _ made made bytes_are marks_are refl) in
    subst (λ (ps : List Slot). IsSeenAs ps size (state (both bytes marks) made)) (sym (take_at new (drop (length new) old) n (long ∙ sym many))) record {
      marked = marked;
      made = made_is;
      whole = record {
        lawful = subst IsLawfulLimit (ap (λ (m : ℕ). 65536 + m) (bytes_long old size ∙ sym (bytes_long new size))) is.kept.0.lawful;
        as_long = marks_long new size ∙ sym (bytes_long new size);
        closed = subst (λ (t : MarkedText). IsClosed t.bytes t.marks) (sym marked) closed;
      };
      long = long ∙ is.kept.1;
    }

-- where no byte of a table that was lent was changed, the bytes are seen as before
pub same_bytes : {old lent : List Slot} {size : ℕ} {now : TextState} → IsLent old lent size now → (new : List Slot)
    → ((k : ℕ) → byte_of new k ≡ byte_of lent k) → (text_of new size).marked.bytes ≡ now.marked.bytes
same_bytes {old = old} {size = size} is new bytes =
    same_all 0 (byte_of old) (byte_of new) size (λ k lt. bytes k ∙ ap (λ (ps : List Slot). byte_of ps k) is.loan)
    ∙ ap (λ (t : TextState). t.marked.bytes) is.view

-- where no mark of a table that was lent was changed, the marks are seen as before
pub same_marks : {old lent : List Slot} {size : ℕ} {now : TextState} → IsLent old lent size now → (new : List Slot)
    → ((k : ℕ) → mark_in_pages new k ≡ mark_in_pages lent k) → (text_of new size).marked.marks ≡ now.marked.marks
same_marks {old = old} {size = size} is new marks =
    same_all Unmarked (mark_in_pages old) (mark_in_pages new) size (λ k lt. marks k ∙ ap (λ (ps : List Slot). mark_in_pages ps k) is.loan)
    ∙ ap (λ (t : TextState). t.marked.marks) is.view

-- a place that is ready lies on a page of the table that is made
pub ready_made : (table : List Slot) (made : List Bool) (at k : ℕ) → map is_some table ≡ made → 65536 ≤ at → IsReady made (at + k)
    → is_some (get_or table ((at - 65536 + k) / 4096) None) ≡ true
ready_made table made at k is low ready =
    let moved : at + k - 65536 ≡ at - 65536 + k = omega arith in
    sym (made_at table ((at - 65536 + k) / 4096)) ∙ (ap (λ (ds : List Bool). get_or ds ((at - 65536 + k) / 4096) false) is
    ∙ subst (λ (j : ℕ). get_or made (j / 4096) false ≡ true) moved ready)

-- the pages of a span that is ready are made in a table that was lent
pub span_made : {old lent : List Slot} {size : ℕ} {now : TextState} → IsLent old lent size now → (at len : ℕ)
    → SpanInRegion now.marked.bytes at len → AreReady now.made at len → (k : ℕ) → k < len
    → is_some (get_or lent ((at - 65536 + k) / 4096) None) ≡ true
span_made {lent = lent} {now = now} is at len inside ready k lt =
    ready_made lent now.made at k (lent_made is) (span_within now.marked.bytes at len inside (omega (arith, lt))).0 (ready k lt)

-- a place that lies on a page of the table that is made is ready
pub made_ready : (table : List Slot) (made : List Bool) (at k : ℕ) → map is_some table ≡ made → 65536 ≤ at
    → is_some (get_or table ((at - 65536 + k) / 4096) None) ≡ true → IsReady made (at + k)
made_ready table made at k is low here =
    let moved : at - 65536 + k ≡ at + k - 65536 = omega arith in
    subst (λ (j : ℕ). get_or made (j / 4096) false ≡ true) moved
    (ap (λ (ds : List Bool). get_or ds ((at - 65536 + k) / 4096) false) (sym is) ∙ (made_at table ((at - 65536 + k) / 4096) ∙ here))

-- each page of a span has a place of it
pub place_on : (start len i last : ℕ) → 0 < len → start / 4096 ≤ i → i < last → last ≡ (start + len) / 4096 + min 1 ((start + len) % 4096)
    → (4096 * i - start < len) × ((start + (4096 * i - start)) / 4096 ≡ i)
place_on start len i last some low high is = (omega arith, omega arith)

-- each place of a span lies on a page of it
pub page_within : (start len k last : ℕ) → k < len → last ≡ (start + len) / 4096 + min 1 ((start + len) % 4096)
    → (start / 4096 ≤ (start + k) / 4096) × ((start + k) / 4096 < last)
page_within start len k last within is = (omega arith, omega arith)

-- the pages of a span that is ready are made
pub all_made : (table : List Slot) (made : List Bool) (at len last : ℕ) → map is_some table ≡ made → 65536 ≤ at → 0 < len
    → last ≡ (at - 65536 + len) / 4096 + min 1 ((at - 65536 + len) % 4096) → AreReady made at len → (i : ℕ) → (at - 65536) / 4096 ≤ i
    → i < last → is_some (get_or table i None) ≡ true
all_made table made at len last is low some end ready i from below =
    let on = place_on (at - 65536) len i last some from below end in
    subst (λ (j : ℕ). is_some (get_or table j None) ≡ true) on.1
    (ready_made table made at (4096 * i - (at - 65536)) is low (ready (4096 * i - (at - 65536)) on.0))

-- a span is ready if its pages are made
pub all_ready : (table : List Slot) (made : List Bool) (at len last : ℕ) → map is_some table ≡ made → 65536 ≤ at
    → last ≡ (at - 65536 + len) / 4096 + min 1 ((at - 65536 + len) % 4096)
    → ((i : ℕ) → (at - 65536) / 4096 ≤ i → i < last → is_some (get_or table i None) ≡ true) → AreReady made at len
all_ready table made at len last is low end pages =
    λ k within.
    let on = page_within (at - 65536) len k last within end in
    made_ready table made at k is low (pages ((at - 65536 + k) / 4096) on.0 on.1)

-- pages were made in a table that was lent
pub make_done : {old lent : List Slot} {size : ℕ} {now : TextState} → IsLent old lent size now → (new : List Slot) (n : ℕ) → n ≡ length old
    → length new ≡ length lent → ((k : ℕ) → byte_of new k ≡ byte_of lent k) → ((k : ℕ) → mark_in_pages new k ≡ mark_in_pages lent k)
    → IsSeenAs (put_back old new n) size (state now.marked (map is_some new))
make_done {now = now} is new n many long bytes marks =
    changed is new n now.marked.bytes now.marked.marks (map is_some new) many long (same_bytes is new bytes) (same_marks is new marks) refl
    (subst (λ (t : TextState). IsClosed t.marked.bytes t.marked.marks) is.view is.kept.0.closed)

-- a place on a page of the span
meets : (at len place last : ℕ) → 65536 ≤ at → 0 < len → last ≡ (at - 65536 + len) / 4096 + min 1 ((at - 65536 + len) % 4096)
    → (at - 65536) / 4096 ≤ (place - 65536) / 4096 → (place - 65536) / 4096 < last → SharesPage at len place
meets at len place last low some end from below =
    let on = place_on (at - 65536) len ((place - 65536) / 4096) last some from below end in
    record {
      offset = 4096 * ((place - 65536) / 4096) - (at - 65536);
      within = on.0;
      same_page = omega (arith, low, on.1);
    }

-- only pages of the span were made
pub gets_ready : {old lent : List Slot} {size : ℕ} {now : TextState} → IsLent old lent size now → (new : List Slot) (at len last : ℕ)
    → 65536 ≤ at → 0 < len → last ≡ (at - 65536 + len) / 4096 + min 1 ((at - 65536 + len) % 4096)
    → ((i : ℕ) → is_some (get_or lent i None) ≡ true → is_some (get_or new i None) ≡ true)
    → ((i : ℕ) → is_some (get_or new i None) ≡ true → (is_some (get_or lent i None) ≡ true) ⊎ (((at - 65536) / 4096 ≤ i) × (i < last)))
    → GetsReady now.made (map is_some new) at len
gets_ready {lent = lent} is new at len last low some end keeps needs =
    let page = λ (place : ℕ). (place - 65536) / 4096 in
    let seen = λ (i : ℕ). sym (made_at lent i) ∙ ap (λ (ds : List Bool). get_or ds i false) (lent_made is) in
    record {
      kept = λ place was. made_at new (page place) ∙ keeps (page place) (seen (page place) ∙ was);
      needed = λ place here. elim (needs (page place) (sym (made_at new (page place)) ∙ here)) [
        | inl was ↦ inl (sym (seen (page place)) ∙ was)
        | inr r ↦ inr (meets at len place last low some end r.0 r.1)
      ];
    }

-- the place in a region whose mark is due has the same mark due as its number from the region's first on
pub unused_mark_up : (k : ℕ) → unused_mark (65536 + k) ≡ unused_mark k
unused_mark_up k = let e : (65536 + k) % 32 ≡ k % 32 = omega arith in grind (arith, nat_tests, e)

-- no page of a new table is made
abbrev pub unmade : Slot
unmade = None

-- a list of unmade pages has none made at any number
pub unmade_at : (n i : ℕ) → get_or (replicate n unmade) i None ≡ None
unmade_at n i =
    elim (cases_lt i n) [
      | inl lt ↦ get_or-replicate n i unmade None lt
      | inr past ↦ get_or_past (replicate n unmade) i None (let long = length-replicate n unmade in omega (arith, long))
    ]

-- of a list of unmade pages none is made
pub none_made : (n : ℕ) → map is_some (replicate n unmade) ≡ replicate n false
none_made zero = refl
none_made (suc n) = ap (λ (ds : List Bool). false ∷ ds) (none_made n)

-- a table of unmade pages is seen as a new text
pub new_seen : (limit n size : ℕ) → size ≡ limit - 65536 → n ≡ (limit - 65536 + 4095) / 4096
    → text_of (replicate n unmade) size ≡ state (unused_text limit) (unmade_pages limit)
new_seen limit n size e m =
    let table = replicate n unmade in
    let long : length (text_of table size).marked.bytes ≡ size = bytes_long table size in
    let long_marks : length (text_of table size).marked.marks ≡ size = marks_long table size in
    let long_stops : length (unused_text limit).bytes ≡ limit - 65536 = length-replicate (limit - 65536) 244 in
    let long_unused : length (unused_text limit).marks ≡ limit - 65536 = length-map-range_with_len unused_mark 65536 (limit - 65536) in
    state_is _ _ _ _ _ _
    (ext_get_or 0 (text_of table size).marked.bytes (unused_text limit).bytes (omega arith) (λ k lt.
    byte_seen table size k (omega arith) ∙ (ap (λ (o : Slot). byte_if_made o (k % 4096)) (unmade_at n (k / 4096))
    ∙ sym (get_or-replicate (limit - 65536) k 244 0 (omega arith)))))
    (ext_get_or Unmarked (text_of table size).marked.marks (unused_text limit).marks (omega arith) (λ k lt.
    mark_seen table size k (omega arith) ∙ (ap (λ (o : Slot). mark_if_made o (k % 4096)) (unmade_at n (k / 4096))
    ∙ (unused_mark_on k ∙ (sym (unused_mark_up k)
    ∙ sym (get_or-map-range_with_len unused_mark 65536 (limit - 65536) k (65536 + k) Unmarked (omega arith) refl))))))
    (none_made n ∙ ap (λ (j : ℕ). replicate j false) m)

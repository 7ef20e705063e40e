-- A row of which chunks were taken out.
use Rattle.std.proofs.Common.{◌≡◌, ℕ, ◌+◌, ◌-◌, ◌<◌, Bool, true, false, List, [], ◌∷◌, ◌++◌, length, get_or, set, refl, sym, ap, ◌∙◌, arith, subst}
use Rattle.std.proofs.lemmas.List.{length-append}
use Rattle.nc_list.specs.declared.chunk.Chunk.{Chunk}
use Rattle.nc_base.specs.Each.{Each}
use Rattle.nc_list.specs.Chunks.{AreTaken, is_due, freed, kept}
use Rattle.nc_list.specs.Stamps.{IsSince, AreSince, BeginsAt}
use Rattle.nc_list.specs.Parts.{HaveSome, IsRow, AreTakenFrom, all_of, starts_of}
use Rattle.nc_base.proofs.Offered.{each_append, each_split}
use Rattle.nc_list.proofs.Rows.{begins_all}
use Rattle.nc_list.proofs.Taking.{taken_from}

-- with one more chunk, due or not, all are still as many as the kept and the freed ones
one_more : (least : ℕ) (c : Chunk) (cs : List Chunk) (b : Bool) → is_due least c.state ≡ b
    → length cs ≡ length (kept least cs) + length (freed least cs)
    → length (c ∷ cs) ≡ length (kept least (c ∷ cs)) + length (freed least (c ∷ cs))
one_more least c cs true is so = rw is (omega (arith, so))
one_more least c cs false is so = rw is (omega (arith, so))

-- the chunks that are kept and those that are freed are together as many as all
pub kept_and_freed : (least : ℕ) (cs : List Chunk) → length cs ≡ length (kept least cs) + length (freed least cs)
kept_and_freed least [] = refl
kept_and_freed least (c ∷ cs) = one_more least c cs (is_due least c.state) refl (kept_and_freed least cs)

-- the number of chunks that are left
pub taken_long : (least : ℕ) (old new taken : List Chunk) → AreTaken least old new taken → length old ≡ length new + length taken
taken_long least old new taken so =
    omega (
      arith,
      ap (λ (z : List Chunk). length z) so.was,
      ap (λ (z : List Chunk). length z) so.now,
      ap (λ (z : List Chunk). length z) so.taken_are,
      length-append so.front so.back,
      length-append (kept least so.front) so.back,
      kept_and_freed least so.front,
    )

-- what holds of each of a list holds of those that stay
each_kept_by : (P : Chunk → Type 0) (least : ℕ) (c : Chunk) (cs : List Chunk) (b : Bool) → is_due least c.state ≡ b → P c
    → Each P (kept least cs) → Each P (kept least (c ∷ cs))
each_kept_by P least c cs true is p h = rw is h
each_kept_by P least c cs false is p h = rw is (p, h)

each_kept : (P : Chunk → Type 0) (least : ℕ) (cs : List Chunk) → Each P cs → Each P (kept least cs)
each_kept P least [] h = tt
each_kept P least (c ∷ cs) h = each_kept_by P least c cs (is_due least c.state) refl h.0 (each_kept P least cs h.1)

pub taken_since : (least oldest : ℕ) (old new taken : List Chunk) → AreTaken least old new taken → AreSince oldest old → AreSince oldest new
taken_since least oldest old new taken so since =
    let parts = each_split (λ (d : Chunk). IsSince oldest d.state) so.front so.back (subst (AreSince oldest) so.was since) in
    subst (AreSince oldest) (sym so.now)
    (each_append (λ (d : Chunk). IsSince oldest d.state) (kept least so.front) so.back
    (each_kept (λ (d : Chunk). IsSince oldest d.state) least so.front parts.0) parts.1)

-- the part that was taken from, in the list of parts
set_middle : (before : List (List Chunk)) (here left : List Chunk) (after : List (List Chunk))
    → set (before ++ here ∷ after) (length before) left ≡ before ++ left ∷ after
set_middle [] here left after = refl
set_middle (p ∷ before) here left after = ap (λ (z : List (List Chunk)). p ∷ z) (set_middle before here left after)

get_middle : (before : List (List Chunk)) (here : List Chunk) (after : List (List Chunk))
    → get_or (before ++ here ∷ after) (length before) [] ≡ here
get_middle [] here after = refl
get_middle (p ∷ before) here after = get_middle before here after

pub taken_inside : (least : ℕ) (old new : List (List Chunk)) (taken : List Chunk) (k : ℕ) → AreTakenFrom least old new taken k
    → k < length old
taken_inside least old new taken k so =
    omega (arith, so.index, ap (λ (z : List (List Chunk)). length z) so.was, length-append so.before (so.here ∷ so.after))

pub taken_set : (least : ℕ) (old new : List (List Chunk)) (taken : List Chunk) (k : ℕ) (so : AreTakenFrom least old new taken k)
    → set old k so.left ≡ new
taken_set least old new taken k so =
    ap (λ (z : List (List Chunk)). set z k so.left) so.was
    ∙ (ap (λ (n : ℕ). set (so.before ++ so.here ∷ so.after) n so.left) so.index
    ∙ (set_middle so.before so.here so.left so.after ∙ sym so.now))

pub taken_here : (least : ℕ) (old new : List (List Chunk)) (taken : List Chunk) (k : ℕ) (so : AreTakenFrom least old new taken k)
    → length (get_or old k []) ≡ length so.left + length taken
taken_here least old new taken k so =
    ap (λ (z : List Chunk). length z)
    (ap (λ (z : List (List Chunk)). get_or z k []) so.was
    ∙ (ap (λ (n : ℕ). get_or (so.before ++ so.here ∷ so.after) n []) so.index ∙ get_middle so.before so.here so.after))
    ∙ taken_long least so.here so.left taken so.taken_are

-- the row once some chunks were taken from one part
pub taken_row : (least : ℕ) (old new last : List (List Chunk)) (starts now : List ℕ) (count first oldest front since k n : ℕ)
    (taken : List Chunk) → IsRow old starts count first oldest → AreTakenFrom least old new taken k → n ≡ length taken
    → all_of last ≡ all_of new → now ≡ starts_of 0 last → HaveSome last → 0 < length last → BeginsAt front (get_or last 0 [])
    → AreSince since (all_of last) → IsRow last now (count - n) front since
taken_row least old new last starts now count first oldest front since k n taken row so is same are have some begins later =
    let took = taken_from least old new taken k so in
    record {
      starts_are = are;
      some = have;
      count_is = omega (
        arith,
        row.count_is,
        is,
        taken_long least (all_of old) (all_of new) taken took,
        ap (λ (z : List Chunk). length z) same,
      );
      begins = begins_all last front some have begins;
      since = later;
    }

-- Taking the chunks that are due out of the list, and unmarking them.
use Rattle.std.proofs.Common.{◌≡◌, ℕ, suc, ◌+◌, ◌<◌, Bool, true, false, not, cond, List, [], ◌∷◌, ◌++◌, length, refl, sym, ap, ◌∙◌, subst}
use Rattle.std.proofs.Common.{arith, append_assoc, append-nil, get_or, take, drop, drop-cons}
use Rattle.std.proofs.Math.Seq.{take-suc}
use Rattle.std.proofs.lemmas.List.{map-append}
use Rattle.nc_text.specs.MarkedText.{MarkedText, without_marks}
use Rattle.nc_list.specs.declared.chunk.Chunk.{Chunk}
use Rattle.nc_list.specs.Chunks.{AreTaken}
use Rattle.nc_list.proofs.Offered.{freed_append, kept_append, all_stay, taken_nothing}
use Rattle.nc_acts.specs.declared.acts.Act.{Act}
use Rattle.nc_acts.specs.declared.acts.Act.TheVariants.{UnmarkSpan}
use Rattle.nc_acts.specs.declared.acts.Entry.{Entry}
use Rattle.nc_acts.specs.declared.acts.Entry.TheVariants.{Did}
use Rattle.nc_acts.specs.Log.{Logs, only_acts}
use Rattle.nc_region.specs.Deletion.{is_due, freed, kept, unmarked, unmarkings}
use Rattle.nc_region.specs.Quiet.{IsQuiet}
use Rattle.nc_region.specs.Region.{IsRegion}
use Rattle.nc_region.specs.machinery.Freeing.{AreTakenOut, AreUnmarked, AreFreed, AllFreed}
use Rattle.nc_region.proofs.events.Unmarking.{MayFree}
use Rattle.nc_region.proofs.deleting.Freed.{span_of, dead_is_quiet, frees, region_freed}
use Rattle.nc_region.proofs.deleting.Due.{due_dead}
use Rattle.nc_acts.proofs.Offered.{logs_none, logs_acts}

-- ---- spans that are unmarked

-- unmarking the spans of two lists is unmarking those of the one and then those of the other
unmarked_append : (marked : MarkedText) (xs ys : List Chunk) → unmarked marked (xs ++ ys) ≡ unmarked (unmarked marked xs) ys
unmarked_append marked [] ys = refl
unmarked_append marked (x ∷ xs) ys = unmarked_append (without_marks marked x.base x.length) xs ys

-- the acts that unmark the spans of two lists are those for the one and then those for the other
unmarkings_append : (xs ys : List Chunk) → unmarkings (xs ++ ys) ≡ unmarkings xs ++ unmarkings ys
unmarkings_append xs ys = map-append (λ (x : Chunk). UnmarkSpan x.base x.length) xs ys

-- no chunk is unmarked where nothing changes
pub unmarks_none : (marked : MarkedText) (logged : List Entry) → AreUnmarked [] marked marked logged logged
unmarks_none marked logged = record { marked = refl; logs = logs_none logged }

-- one chunk is unmarked by the act on its span
pub unmarks_one : (chunk : Chunk) (a b : MarkedText) (l m : List Entry) → b ≡ without_marks a chunk.base chunk.length
    → Logs l m (Did (UnmarkSpan chunk.base chunk.length) ∷ []) → AreUnmarked (chunk ∷ []) a b l m
unmarks_one chunk a b l m marked logs = record { marked = marked; logs = logs }

-- chunks that are unmarked after others are unmarked with them
pub unmarks_more : (xs ys : List Chunk) (a b c : MarkedText) (l m n : List Entry)
    → AreUnmarked xs a b l m → AreUnmarked ys b c m n → AreUnmarked (xs ++ ys) a c l n
unmarks_more xs ys a b c l m n first second = record {
  marked = second.marked ∙ (ap (λ (z : MarkedText). unmarked z ys) first.marked ∙ sym (unmarked_append a xs ys));
  logs = subst (λ (z : List Act). Logs l n (only_acts z)) (sym (unmarkings_append xs ys))
      (logs_acts l m n (unmarkings xs) (unmarkings ys) first.logs second.logs);
}

-- ---- the chunks that are taken out at once

-- where the first chunk stands that is due, and what the list is without it
record FirstDue (least : ℕ) (front : List Chunk) (c : Chunk) (rest : List Chunk) : Type 0 where
  before : List Chunk
  after : List Chunk
  parts : front ≡ before ++ c ∷ after
  due : is_due least c.state ≡ true
  stay : kept least front ≡ kept least (before ++ after)
  others : rest ≡ freed least (before ++ after)

-- where some chunks are due, the first of them stands somewhere in the list
first_due : (least : ℕ) (front : List Chunk) (c : Chunk) (rest : List Chunk) → c ∷ rest ≡ freed least front → FirstDue least front c rest
first_due least [] c rest is = absurd cc
first_due least (d ∷ front) c rest is = go (is_due least d.state) refl is (first_due least front c rest)
  where
    go : (b : Bool) → is_due least d.state ≡ b → c ∷ rest ≡ cond b (d ∷ freed least front) (freed least front)
        → (c ∷ rest ≡ freed least front → FirstDue least front c rest) → FirstDue least (d ∷ front) c rest
    go true due is later =
        let same : c ≡ d = cc in
        record {
          before = [];
          after = front;
          parts = ap (λ (x : Chunk). x ∷ front) (sym same);
          due = subst (λ (x : Chunk). is_due least x.state ≡ true) (sym same) due;
          stay = rw due refl;
          others = cc;
        }
    go false not_due is later =
        let r = later is in
        record {
          before = d ∷ r.before;
          after = r.after;
          parts = ap (λ (z : List Chunk). d ∷ z) r.parts;
          due = r.due;
          stay = rw not_due (ap (λ (z : List Chunk). d ∷ z) r.stay);
          others = rw not_due r.others;
        }

-- two lists together, the first of which is parted at a chunk, are parted there
at_seam : (before after back : List Chunk) (c : Chunk) → (before ++ c ∷ after) ++ back ≡ before ++ c ∷ (after ++ back)
at_seam before after back c = append_assoc before (c ∷ after) back

-- the first of the chunks that were taken out may be unmarked, is quiet, and leaves the others
pub next_taken : (least : ℕ) (marked : MarkedText) (left : List Chunk) (c : Chunk) (rest : List Chunk)
    → AreTakenOut least marked left (c ∷ rest)
    → MayFree marked (span_of c) × IsQuiet marked.bytes marked.marks (span_of c)
    × AreTakenOut least (without_marks marked c.base c.length) left rest
next_taken least marked left c rest out =
    let f = first_due least out.front c rest out.taken_are in
    let dead = due_dead least c.state f.due in
    let region : IsRegion marked (f.before ++ c ∷ (f.after ++ out.back)) =
    subst (IsRegion marked) (ap (λ (z : List Chunk). z ++ out.back) f.parts ∙ at_seam f.before f.after out.back c) out.region in (
      frees marked f.before (f.after ++ out.back) c region dead,
      dead_is_quiet marked f.before (f.after ++ out.back) c region dead,
      record {
        front = f.before ++ f.after;
        back = out.back;
        region = subst (IsRegion (without_marks marked c.base c.length)) (sym (append_assoc f.before f.after out.back))
            (region_freed marked f.before (f.after ++ out.back) c region dead);
        left_are = out.left_are ∙ ap (λ (z : List Chunk). z ++ out.back) f.stay;
        taken_are = f.others;
      },
    )

-- the taken chunk at an index may be freed, and its span is quiet, once those before it are unmarked
pub taken_at : (least : ℕ) (marked : MarkedText) (left taken : List Chunk) (i : ℕ) (c : Chunk) → i < length taken → c ≡ get_or taken i c
    → AreTakenOut least marked left (drop i taken)
    → MayFree marked (span_of c) × IsQuiet marked.bytes marked.marks (span_of c)
    × AreTakenOut least (without_marks marked c.base c.length) left (drop (i + 1) taken)
taken_at least marked left taken i c lt is out =
    let next : suc i ≡ i + 1 = omega arith in
    let n = next_taken least marked left c (drop (suc i) taken)
    (subst (AreTakenOut least marked left) (drop-cons taken i c lt ∙ ap (λ (x : Chunk). x ∷ drop (suc i) taken) (sym is)) out) in (
      n.0,
      n.1,
      subst (λ (k : ℕ). AreTakenOut least (without_marks marked c.base c.length) left (drop k taken)) next n.2,
    )

-- the taken chunks up to the next index are those up to this one, and the one here
pub taken_more : (taken : List Chunk) (i : ℕ) (c : Chunk) → i < length taken → c ≡ get_or taken i c
    → take (i + 1) taken ≡ take i taken ++ c ∷ []
taken_more taken i c lt is =
    let next : suc i ≡ i + 1 = omega arith in
    ap (λ (k : ℕ). take k taken) (sym next) ∙ (take-suc taken i c lt ∙ ap (λ (x : Chunk). take i taken ++ x ∷ []) (sym is))

-- a list of which none is due
stays_whole : (least : ℕ) (chunks : List Chunk) → [] ≡ freed least chunks → kept least chunks ≡ chunks
stays_whole least chunks none = all_stay least chunks (sym none)

-- once all chunks that were taken out are unmarked, what is left is a region
pub none_taken : (least : ℕ) (marked : MarkedText) (left : List Chunk) → AreTakenOut least marked left [] → IsRegion marked left
none_taken least marked left out =
    subst (IsRegion marked) (sym (out.left_are ∙ ap (λ (z : List Chunk). z ++ out.back) (stays_whole least out.front out.taken_are))) out.region

-- what is taken out of a region's list
pub taken_out : (least : ℕ) (marked : MarkedText) (old new taken : List Chunk) → IsRegion marked old → AreTaken least old new taken
    → AreTakenOut least marked new taken
taken_out least marked old new taken region t = record {
  front = t.front;
  back = t.back;
  region = subst (IsRegion marked) t.was region;
  left_are = t.now;
  taken_are = t.taken_are;
}

-- ---- all that are due

-- one chunk before others that are kept is kept too, if it is kept at all
kept_one : (least : ℕ) (c : Chunk) (rest : List Chunk) (b : Bool) → is_due least c.state ≡ b → kept least (kept least rest) ≡ kept least rest
    → kept least (cond (not b) (c ∷ kept least rest) (kept least rest)) ≡ cond (not b) (c ∷ kept least rest) (kept least rest)
kept_one least c rest true is h = h
kept_one least c rest false is h = rw is (ap (λ (z : List Chunk). c ∷ z) h)

-- the chunks kept of kept ones are all of them
kept_kept : (least : ℕ) (chunks : List Chunk) → kept least (kept least chunks) ≡ kept least chunks
kept_kept least [] = refl
kept_kept least (c ∷ rest) = kept_one least c rest (is_due least c.state) refl (kept_kept least rest)

-- where no kept chunk is due, none is with one more chunk, if that is kept
freed_one : (least : ℕ) (c : Chunk) (rest : List Chunk) (b : Bool) → is_due least c.state ≡ b → freed least (kept least rest) ≡ []
    → freed least (cond (not b) (c ∷ kept least rest) (kept least rest)) ≡ []
freed_one least c rest true is h = h
freed_one least c rest false is h = rw is h

-- no chunk that is kept is due
freed_kept : (least : ℕ) (chunks : List Chunk) → freed least (kept least chunks) ≡ []
freed_kept least [] = refl
freed_kept least (c ∷ rest) = freed_one least c rest (is_due least c.state) refl (freed_kept least rest)

-- the chunks that stay are the same, without those that were taken
kept_taken : (least : ℕ) (old new taken : List Chunk) → AreTaken least old new taken → kept least new ≡ kept least old
kept_taken least old new taken t =
    ap (λ (z : List Chunk). kept least z) t.now
    ∙ (kept_append least (kept least t.front) t.back
    ∙ (ap (λ (z : List Chunk). z ++ kept least t.back) (kept_kept least t.front)
    ∙ (sym (kept_append least t.front t.back) ∙ ap (λ (z : List Chunk). kept least z) (sym t.was))))

-- the due chunks are those that were taken, and then those that are still due
freed_taken : (least : ℕ) (old new taken : List Chunk) → AreTaken least old new taken → freed least old ≡ taken ++ freed least new
freed_taken least old new taken t =
    ap (λ (z : List Chunk). freed least z) t.was
    ∙ (freed_append least t.front t.back
    ∙ (ap (λ (z : List Chunk). z ++ freed least t.back) (sym t.taken_are)
    ∙ ap (λ (z : List Chunk). taken ++ z)
    (sym (ap (λ (z : List Chunk). freed least z) t.now
    ∙ (freed_append least (kept least t.front) t.back ∙ ap (λ (z : List Chunk). z ++ freed least t.back) (freed_kept least t.front))))))

-- where no chunk is taken, none is due afterwards
pub none_due : (least : ℕ) (old new taken : List Chunk) → AreTaken least old new taken → taken ≡ [] → freed least new ≡ []
none_due least old new taken t none =
    sym (freed_taken least old new taken t ∙ ap (λ (z : List Chunk). z ++ freed least new) none) ∙ t.none none

-- at the beginning no chunk is freed
pub freed_none : (least : ℕ) (chunks : List Chunk) (marked : MarkedText) (logged : List Entry)
    → IsRegion marked chunks → AreFreed least chunks chunks marked marked logged logged
freed_none least chunks marked logged region =
    record { done = []; stay = refl; parted = refl; unmarks = unmarks_none marked logged; region = region }

-- chunks that are taken out and unmarked after some were freed are freed with them
pub freed_more : (least : ℕ) (old mid new taken : List Chunk) (a b c : MarkedText) (l m n : List Entry)
    → AreFreed least old mid a b l m → AreTaken least mid new taken → AreUnmarked taken b c m n → IsRegion c new
    → AreFreed least old new a c l n
freed_more least old mid new taken a b c l m n f t' one region = record {
  done = f.done ++ taken;
  stay = kept_taken least mid new taken t' ∙ f.stay;
  parted = f.parted ∙ (ap (λ (z : List Chunk). f.done ++ z) (freed_taken least mid new taken t')
      ∙ sym (append_assoc f.done taken (freed least new)));
  unmarks = unmarks_more f.done taken a b c l m n f.unmarks one;
  region = region;
}

-- where none is taken, the chunks that were freed stay freed
pub freed_same : (least : ℕ) (old mid new taken : List Chunk) (a b : MarkedText) (l m : List Entry)
    → AreFreed least old mid a b l m → AreTaken least mid new taken → taken ≡ [] → AreFreed least old new a b l m
freed_same least old mid new taken a b l m f t' none =
    let same : new ≡ mid = taken_nothing least mid new (subst (AreTaken least mid new) none t') in
    subst (λ (z : List Chunk). AreFreed least old z a b l m) (sym same) f

-- all due chunks are freed once none is due any more
pub freed_all : (least : ℕ) (old new : List Chunk) (a b : MarkedText) (l m : List Entry)
    → AreFreed least old new a b l m → freed least new ≡ [] → AllFreed least old new a b l m
freed_all least old new a b l m f none = record {
  chunks = sym (all_stay least new none) ∙ f.stay;
  region = f.region;
  unmarks =
      subst (λ (z : List Chunk). AreUnmarked z a b l m)
      (sym (f.parted ∙ (ap (λ (z : List Chunk). f.done ++ z) none ∙ append-nil f.done))) f.unmarks;
}

-- all due chunks are freed once, after some, all others are
pub freed_rest : (least : ℕ) (old mid new : List Chunk) (a b c : MarkedText) (l m n : List Entry)
    → AreFreed least old mid a b l m → AllFreed least mid new b c m n → AllFreed least old new a c l n
freed_rest least old mid new a b c l m n f rest = record {
  chunks = rest.chunks ∙ f.stay;
  region = rest.region;
  unmarks =
      subst (λ (z : List Chunk). AreUnmarked z a c l n) (sym f.parted)
      (unmarks_more f.done (freed least mid) a b c l m n f.unmarks rest.unmarks);
}

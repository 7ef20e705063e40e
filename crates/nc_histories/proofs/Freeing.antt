-- What the views of a world keep while retired spans are freed: no byte changes, and marks are only taken away.
use Rattle.std.proofs.Common.{◌≡◌, ℕ, ◌+◌, ◌≤◌, Bool, true, false, not, cond, List, [], ◌∷◌, inl, inr, arith, refl, ◌∙◌, sym, ap, subst}
use Rattle.std.specs.Prelude.{filter}
use Rattle.nc_decode.specs.declared.instruction.Mark.{Mark}
use Rattle.nc_decode.specs.declared.instruction.Mark.TheVariants.{Unmarked}
use Rattle.nc_text.specs.Machine.{State, state}
use Rattle.nc_text.specs.Marks.{IsMarked, Admits, mark_at}
use Rattle.nc_text.specs.MarkedText.{MarkedText}
use Rattle.nc_list.specs.declared.chunk.Chunk.{Chunk}
use Rattle.nc_list.specs.declared.chunk.ChunkState.{ChunkState}
use Rattle.nc_list.specs.declared.chunk.ChunkState.TheVariants.{Live, Retired}
use Rattle.nc_region.specs.schedules.Spans.{RetiredSpan}
use Rattle.nc_region.specs.schedules.Views.{IsView}
use Rattle.nc_region.specs.schedules.World.{World, IsViewOf, is_same_span}
use Rattle.nc_region.specs.schedules.Events.{Event, Steps, Enters, Exits, Takes, Sees, Stores, Leaves, Puts, Serializes, Marks, Bumps, Retires, Frees}
use Rattle.nc_region.specs.schedules.Events.{Looks, after, world_after, AreAllowed}
use Rattle.nc_region.proofs.Offered.{Keeps, keeps_event, may_free_now, freed_was}
use Rattle.nc_region.specs.Deletion.{is_due, kept}
use Rattle.nc_region.specs.Region.{IsLive}
use Rattle.nc_histories.specs.Views.{ViewsKeep, IsFree}
use Rattle.nc_histories.specs.Interleaving.{writers}
use Rattle.nc_histories.specs.Whole.{StoodWhole}
use Rattle.nc_histories.proofs.Deletion.{marked_state, unmarked_or_mark}
use Rattle.nc_histories.proofs.Reclaiming.{FreesMay}
use Rattle.nc_histories.proofs.StaysWhole.{IsWholeIn, StaysWhole}

-- the bytes, now and before, are the same, and what is marked now was marked before
pub record IsThinned (w v : World) : Type 0 where
  pub bytes : v.marked.bytes ≡ w.marked.bytes
  pub earlier : v.earlier ≡ w.earlier
  pub fewer : (now : State) → IsMarked v.marked.marks now → IsMarked w.marked.marks now

-- a world in which nothing changed is thinned
thinned_none : (w : World) → IsThinned w w
thinned_none w = record { bytes = refl; earlier = refl; fewer = λ now m. m }

-- a world in which a span is freed is thinned
thinned_frees : (w : World) (span : RetiredSpan) → Keeps w → AreAllowed w (Frees span ∷ []) → IsThinned w (after w (Frees span))
thinned_frees w span keeps allowed =
    record {
      bytes = refl;
      earlier = refl;
      fewer = λ now m. freed_was w.marked span (may_free_now w span keeps allowed.0.0) now m;
    }

-- a world that is thinned twice is thinned
thinned_more : (w v u : World) → IsThinned w v → IsThinned v u → IsThinned w u
thinned_more w v u a b =
    record { bytes = b.bytes ∙ a.bytes; earlier = b.earlier ∙ a.earlier; fewer = λ now m. a.fewer now (b.fewer now m) }

-- a world is thinned by an event that leaves its text and views
thinned_beside : (w v : World) → v.marked ≡ w.marked → v.earlier ≡ w.earlier → IsThinned w v
thinned_beside w v marked earlier =
    record {
      bytes = ap (λ (m : MarkedText). m.bytes) marked;
      earlier = earlier;
      fewer = λ now m. subst (λ (z : List Mark). IsMarked z now) (ap (λ (x : MarkedText). x.marks) marked) m;
    }

-- what views have at fewer places stood there whole
whole_thinned : (w v : World) → IsThinned w v → IsWholeIn w → IsWholeIn v
whole_thinned w v t whole = λ now m.
    subst (λ (text : List ℕ). StoodWhole text v.earlier now.place) (sym t.bytes)
    (subst (λ (earlier : List (List ℕ)). StoodWhole w.marked.bytes earlier now.place) (sym t.earlier) (whole now (t.fewer now m)))

-- Events that only take marks away. If what views have at marked places stood there whole before them, it did after each.
pub record Thins (w : World) (events : List Event) : Type 0 where
  pub thinned : IsThinned w (world_after w events)
  pub whole : IsWholeIn w → StaysWhole w events

-- events thin a world with one that does before them
thins_more : (w : World) (event : Event) (events : List Event) → IsThinned w (after w event) → Thins (after w event) events
    → Thins w (event ∷ events)
thins_more w event events t rest =
    record {
      thinned = thinned_more w (after w event) (world_after (after w event) events) t rest.thinned;
      whole = λ whole. (whole, rest.whole (whole_thinned w (after w event) t whole));
    }

-- spans are freed, with threads in between
pub thins : (events : List Event) (w : World) (spans : List RetiredSpan) (least : ℕ) → Keeps w → AreAllowed w events
    → FreesMay spans least (writers events) → Thins w events
thins [] w spans least keeps a may = record { thinned = thinned_none w; whole = λ whole. whole }
thins (Steps k next ∷ events) w spans least keeps a may =
    thins_more w (Steps k next) events (thinned_beside w (after w (Steps k next)) refl refl)
    (thins events (after w (Steps k next)) spans least (keeps_event w (Steps k next) keeps a.0) a.1 may)
thins (Enters k at ∷ events) w spans least keeps a may =
    thins_more w (Enters k at) events (thinned_beside w (after w (Enters k at)) refl refl)
    (thins events (after w (Enters k at)) spans least (keeps_event w (Enters k at) keeps a.0) a.1 may)
thins (Exits k ∷ events) w spans least keeps a may =
    thins_more w (Exits k) events (thinned_beside w (after w (Exits k)) refl refl)
    (thins events (after w (Exits k)) spans least (keeps_event w (Exits k) keeps a.0) a.1 may)
thins (Takes k ∷ events) w spans least keeps a may =
    thins_more w (Takes k) events (thinned_beside w (after w (Takes k)) refl refl)
    (thins events (after w (Takes k)) spans least (keeps_event w (Takes k) keeps a.0) a.1 may)
thins (Sees k ∷ events) w spans least keeps a may =
    thins_more w (Sees k) events (thinned_beside w (after w (Sees k)) refl refl)
    (thins events (after w (Sees k)) spans least (keeps_event w (Sees k) keeps a.0) a.1 may)
thins (Stores k ∷ events) w spans least keeps a may =
    thins_more w (Stores k) events (thinned_beside w (after w (Stores k)) refl refl)
    (thins events (after w (Stores k)) spans least (keeps_event w (Stores k) keeps a.0) a.1 may)
thins (Leaves k ∷ events) w spans least keeps a may =
    thins_more w (Leaves k) events (thinned_beside w (after w (Leaves k)) refl refl)
    (thins events (after w (Leaves k)) spans least (keeps_event w (Leaves k) keeps a.0) a.1 may)
thins (Puts at byte ∷ events) w spans least keeps a may = absurd may
thins (Serializes ∷ events) w spans least keeps a may = absurd may
thins (Marks at marks ∷ events) w spans least keeps a may = absurd may
thins (Bumps ∷ events) w spans least keeps a may = absurd may
thins (Retires base len ∷ events) w spans least keeps a may = absurd may
thins (Looks k ∷ events) w spans least keeps a may = absurd may
thins (Frees span ∷ events) w spans least keeps a may =
    thins_more w (Frees span) events (thinned_frees w span keeps (a.0, tt))
    (thins events (after w (Frees span)) (filter (λ other. not (is_same_span span other)) spans) least
    (keeps_event w (Frees span) keeps a.0) a.1 may.2)

-- what isn't live isn't in the way
free_if_kept : (least : ℕ) (chunks : List Chunk) (at : ℕ) → IsFree (kept least chunks) at → IsFree chunks at
free_if_kept least [] at free = tt
free_if_kept least (c ∷ rest) at free = go c.state refl (is_due least c.state) refl free (free_if_kept least rest at)
  where
    go : (s : ChunkState) → c.state ≡ s → (b : Bool) → is_due least c.state ≡ b
        → IsFree (cond (not b) (c ∷ kept least rest) (kept least rest)) at → (IsFree (kept least rest) at → IsFree rest at)
        → IsFree (c ∷ rest) at
    go s is false due f rest_is = (f.0, rest_is f.1)
    go Live is true due f rest_is = absurd (let no : false ≡ true = sym (ap (is_due least) is) ∙ due in cc)
    go (Retired stamp) is true due f rest_is = ((λ live inside. subst IsLive is live), rest_is f)

-- an unmarked place stays unmarked where a world is thinned
still_unmarked : (w v : World) → IsThinned w v → (at : ℕ) → 65536 ≤ at → mark_at w.marked.marks at ≡ Unmarked
    → mark_at v.marked.marks at ≡ Unmarked
still_unmarked w v t at low was =
    elim (unmarked_or_mark (mark_at v.marked.marks at)) [
      | inl is ↦ is
      | inr mark ↦
          let s = marked_state (mark_at v.marked.marks at) mark in
          absurd (subst (λ (m : Mark). Admits m s.0) was (t.fewer (state at s.0) (low, s.1)).1)
    ]

-- where a world is thinned, its views keep what they have to for the chunks that are kept
pub views_thinned : (w v : World) (chunks : List Chunk) (least : ℕ) → IsThinned w v → ViewsKeep w chunks → ViewsKeep v (kept least chunks)
views_thinned w v chunks least t keep =
    record {
      parted = λ view is now i k m at some less.
          still_unmarked w v t (now.place + k) (omega (arith, m.0))
          (keep.parted view (view_before view is) now i k (t.fewer now m) at some less);
      stopped = λ view is now m free.
          keep.stopped view (view_before view is) now (t.fewer now m) (free_if_kept least chunks now.place free);
    }
  where
    view_before : (view : List ℕ) → IsViewOf v view → IsViewOf w view
    view_before view is =
        subst (λ (bytes : List ℕ). IsView bytes w.earlier view) t.bytes
        (subst (λ (earlier : List (List ℕ)). IsView v.marked.bytes earlier view) t.earlier is)

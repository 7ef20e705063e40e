-- A schedule that has led to a region, and events of the keeper more; and a new region over a keeper that was used.
use Rattle.std.proofs.Common.{◌≡◌, ℕ, ◌≤◌, List, [], ◌++◌, arith, refl, ◌∙◌, sym, ap, subst}
use Rattle.std.specs.Prelude.{All, Contains, ◌↔◌}
use Rattle.nc_decode.specs.Bundles.{IsLawfulLimit}
use Rattle.nc_text.specs.MarkedText.{unused_text}
use Rattle.nc_gens.specs.Rule.{first_keeper_numbers, last_generation}
use Rattle.nc_list.specs.declared.chunk.Chunk.{Chunk}
use Rattle.nc_region.specs.schedules.Spans.{RetiredSpan}
use Rattle.nc_region.specs.schedules.World.{World, first_world}
use Rattle.nc_region.specs.schedules.Events.{Event, world_after}
use Rattle.nc_region.proofs.Offered.{after_append}
use Rattle.nc_region.specs.Quiet.{retired_spans}
use Rattle.nc_region.specs.Region.{Region, IsRegion}
use Rattle.nc_region.proofs.Offered.{region_of_new}
use Rattle.nc_histories.specs.Views.{ViewsKeep}
use Rattle.nc_histories.specs.Interleaving.{writers, IsKeepers, ThreadsMay}
use Rattle.nc_histories.specs.Calls.{KnowsNoMore, HasLedTo}
use Rattle.nc_histories.proofs.OneMoreCall.{Grows, grown}
use Rattle.nc_histories.proofs.Knowing.{knows_as_much}
use Rattle.nc_histories.proofs.Looking.{KeeperOnly, keeper_interleaved, placed}
use Rattle.nc_histories.proofs.Parting.{Kept, region_kept}
use Rattle.nc_histories.proofs.Putting.{serialized_views}

-- the keeper's own events lead to a world that stands for the new region
pub keeper : (limit seats : ℕ) (before events : List Event) (old new : Region) → HasLedTo limit seats before old
    → new.marked ≡ old.marked → new.chunks ≡ old.chunks → All IsKeepers (writers events)
    → ThreadsMay (world_after (first_world limit seats) before) events
    → KnowsNoMore new.keeper.numbers (world_after (first_world limit seats) (before ++ events)).keeper
    → new.keeper.numbers.generation ≤ last_generation → Grows limit seats before events new
keeper limit seats before events old new h marked chunks own threads found range =
    let w = world_after (first_world limit seats) before in
    let a : KeeperOnly w w.keeper w.seats events = keeper_interleaved w events w.keeper w.seats own threads in
    let knows : KnowsNoMore new.keeper.numbers a.keeper_after =
    subst (KnowsNoMore new.keeper.numbers) (ap (λ (x : World). x.keeper)
    (after_append (first_world limit seats) before events ∙ a.after_is)) found in
    grown limit seats before events old new (placed w a.keeper_after a.seats_after) h
    (record { allowed = a.allowed; whole = a.whole; after_is = a.after_is })
    (record {
      marked = h.stands.marked ∙ sym marked;
      keeper = knows;
      spans = λ span. subst (λ (z : List Chunk). Contains w.retired span ↔ Contains (retired_spans z) span) (sym chunks)
          (h.stands.spans span);
    })
    (subst (ViewsKeep (placed w a.keeper_after a.seats_after)) (sym chunks)
    (record { parted = h.views.parted; stopped = h.views.stopped }))
    range

-- the views of the first world
first_views : (limit seats : ℕ) → IsLawfulLimit limit → ViewsKeep (first_world limit seats) []
first_views limit seats lawful =
    let region : IsRegion (unused_text limit) [] = region_of_new (unused_text limit) (limit, lawful, refl) in
    let kept = serialized_views (Kept (unused_text limit).marks []) (unused_text limit).bytes (region_kept (unused_text limit) [] region) in
    record { parted = λ view v. (kept view v).parted; stopped = λ view v. (kept view v).stopped }

-- A new region. It is the one over an unused keeper, after what this keeper did.
pub begins : (limit seats : ℕ) (events : List Event) (r : Region) → IsLawfulLimit limit → r.marked ≡ unused_text limit → r.chunks ≡ []
    → All IsKeepers (writers events) → ThreadsMay (first_world limit seats) events
    → KnowsNoMore r.keeper.numbers (world_after (first_world limit seats) events).keeper
    → r.keeper.numbers.generation ≤ last_generation → Grows limit seats [] events r
begins limit seats events r lawful marked chunks own threads found range =
    let none : List RetiredSpan = [] in
    let unused : Region = record r { keeper = record r.keeper { numbers = first_keeper_numbers seats } } in
    keeper limit seats [] events (record r { keeper = record r.keeper { numbers = first_keeper_numbers seats } }) r
    (record {
      lawful = lawful;
      allowed = tt;
      stands = record {
        marked = sym marked;
        keeper = knows_as_much (first_keeper_numbers seats) (first_keeper_numbers seats) refl;
        spans = λ span. subst (λ (z : List Chunk). Contains none span ↔ Contains (retired_spans z) span) (sym chunks)
            ((λ x. x), (λ x. x));
      };
      views = subst (ViewsKeep (first_world limit seats)) (sym chunks) (first_views limit seats lawful);
      in_range = omega arith;
    })
    refl refl own threads found range

-- A schedule that has led to a region, and a reclaiming more.
use Rattle.std.proofs.Common.{◌≡◌, ℕ, ◌≤◌, List, [], ◌∷◌, ◌++◌, map, arith, ◌∙◌, sym, ap, subst}
use Rattle.std.specs.Prelude.{All, Contains, ◌↔◌}
use Rattle.std.specs.List.{range_with_len}
use Rattle.nc_text.specs.Places.{limit_of}
use Rattle.nc_text.specs.MarkedText.{MarkedText}
use Rattle.nc_gens.specs.Rule.{last_generation}
use Rattle.nc_gens.specs.Seen.{least_number}
use Rattle.nc_list.specs.declared.chunk.Chunk.{Chunk}
use Rattle.nc_region.specs.schedules.World.{World, first_world}
use Rattle.nc_region.specs.schedules.Events.{Event, Looks, world_after}
use Rattle.nc_region.proofs.Offered.{Keeps, keeps_all, keeps_reached, after_append}
use Rattle.nc_acts.specs.declared.acts.Act.TheVariants.{Look}
use Rattle.nc_region.specs.Deletion.{freed, kept, unmarked, unmarkings, IsReclaimed}
use Rattle.nc_region.specs.Quiet.{retired_spans}
use Rattle.nc_region.specs.Region.{Region, IsRegion}
use Rattle.nc_histories.specs.Interleaving.{writers, IsKeepers, ThreadsMay}
use Rattle.nc_histories.specs.Calls.{KnowsNoMore, HasLedTo, no_details, reclaim_events}
use Rattle.nc_histories.specs.Views.{ViewsKeep}
use Rattle.nc_histories.proofs.Entries.{events_of_only_acts}
use Rattle.nc_histories.proofs.Freeing.{thins, views_thinned}
use Rattle.nc_histories.proofs.OneMoreCall.{Grows, grown}
use Rattle.nc_histories.proofs.Looking.{KeeperOnly, looks_are, keeper_interleaved, placed, part, threads_parted}
use Rattle.nc_histories.proofs.Putting.{Leads, leads_more}
use Rattle.nc_histories.proofs.Reclaiming.{FreesMay, frees, frees_same, frees_interleaved, frees_done, finds_all, keeper_stays}
use Rattle.nc_histories.proofs.Interleaved.{seated}

-- the events of a reclaim lead to a world that stands for the new region
pub reclaimed : (limit seats : ℕ) (before events : List Event) (old new : Region) (count : ℕ)
    → HasLedTo limit seats before old → IsRegion old.marked old.chunks → IsReclaimed old new count
    → writers events ≡ reclaim_events seats (least_number new.keeper.numbers) old.chunks
    → ThreadsMay (world_after (first_world limit seats) before) events
    → KnowsNoMore new.keeper.numbers (world_after (first_world limit seats) (before ++ events)).keeper
    → Grows limit seats before events new
reclaimed limit seats before events old new count h region is own threads found =
    let w = world_after (first_world limit seats) before in
    let least = least_number new.keeper.numbers in
    let all = retired_spans old.chunks in
    let looks : List Event = map Looks (range_with_len 0 seats) in
    let cs = freed (least_number new.keeper.numbers) old.chunks in
    let p = part events (map Looks (range_with_len 0 seats))
    (frees (retired_spans old.chunks) (freed (least_number new.keeper.numbers) old.chunks))
    (own
    ∙ (events_of_only_acts (record no_details { seats = seats; spans = retired_spans old.chunks })
    (Look ∷ unmarkings (freed (least_number new.keeper.numbers) old.chunks))
    ∙ ap (λ (z : List Event). map Looks (range_with_len 0 seats) ++ z)
    (frees_same seats (retired_spans old.chunks) (freed (least_number new.keeper.numbers) old.chunks)))) in
    let t = threads_parted w p.first p.second
    (subst (λ (z : List Event). ThreadsMay (world_after (first_world limit seats) before) z) p.is threads) in
    let a : KeeperOnly (world_after (first_world limit seats) before) (world_after (first_world limit seats) before).keeper
    (world_after (first_world limit seats) before).seats p.first =
    keeper_interleaved w p.first w.keeper w.seats (subst (All IsKeepers) (sym p.first_is) (looks_are 0 seats)) t.0 in
    let keeps : Keeps (world_after (first_world limit seats) before) = keeps_reached limit seats before h.lawful h.allowed in
    let mid : World = placed (world_after (first_world limit seats) before) a.keeper_after a.seats_after in
    let keeps_mid : Keeps (placed (world_after (first_world limit seats) before) a.keeper_after a.seats_after) =
    subst Keeps a.after_is (keeps_all w p.first keeps a.allowed) in
    let here = h.stands.marked in
    let region_mid : IsRegion (world_after (first_world limit seats) before).marked old.chunks =
    subst (λ (m : MarkedText). IsRegion m old.chunks) (sym here) region in
    let f = frees_done (least_number new.keeper.numbers) (retired_spans old.chunks) old.chunks []
    (placed (world_after (first_world limit seats) before) a.keeper_after a.seats_after) region_mid
    (finds_all 65536 (limit_of old.marked.bytes) old.chunks region.ascending region.placed) h.stands.spans in
    let may : FreesMay w.retired (least_number new.keeper.numbers) (writers p.second) =
    subst (FreesMay w.retired (least_number new.keeper.numbers)) (sym p.second_is) f.may in
    let keeper_is : (world_after (first_world limit seats) (before ++ events)).keeper ≡ a.keeper_after =
    ap (λ (x : World). x.keeper)
    (ap (λ (z : List Event). world_after (first_world limit seats) (before ++ z)) p.is
    ∙ (after_append (first_world limit seats) before (p.first ++ p.second)
    ∙ (after_append w p.first p.second ∙ ap (λ (x : World). world_after x p.second) a.after_is)))
    ∙ keeper_stays p.second (placed (world_after (first_world limit seats) before) a.keeper_after a.seats_after) w.retired
    (least_number new.keeper.numbers) may in
    let knows : KnowsNoMore new.keeper.numbers a.keeper_after = subst (KnowsNoMore new.keeper.numbers) keeper_is found in
    let range : a.keeper_after.generation ≤ last_generation =
    omega (arith, knows.generation, is.looked.generation, h.in_range) in
    let b = frees_interleaved p.second (placed (world_after (first_world limit seats) before) a.keeper_after a.seats_after) a.seats_after
    new.keeper.numbers keeps_mid range knows may (subst (λ (x : World). ThreadsMay x p.second) a.after_is t.1) in
    let end : World =
    seated (world_after (placed (world_after (first_world limit seats) before) a.keeper_after a.seats_after)
    (frees (retired_spans old.chunks) (freed (least_number new.keeper.numbers) old.chunks))) b.seats_after in
    let end_is : world_after (placed (world_after (first_world limit seats) before) a.keeper_after a.seats_after) p.second
    ≡ seated (world_after (placed (world_after (first_world limit seats) before) a.keeper_after a.seats_after)
    (frees (retired_spans old.chunks) (freed (least_number new.keeper.numbers) old.chunks))) b.seats_after =
    b.after_is ∙ ap
    (λ (z : List Event). seated
    (world_after (placed (world_after (first_world limit seats) before) a.keeper_after a.seats_after) z) b.seats_after) p.second_is in
    let thin = thins p.second (placed (world_after (first_world limit seats) before) a.keeper_after a.seats_after) w.retired
    (least_number new.keeper.numbers) keeps_mid b.allowed may in
    let both : Leads w (p.first ++ p.second)
    (seated (world_after (placed (world_after (first_world limit seats) before) a.keeper_after a.seats_after)
    (frees (retired_spans old.chunks) (freed (least_number new.keeper.numbers) old.chunks))) b.seats_after) =
    leads_more w (placed (world_after (first_world limit seats) before) a.keeper_after a.seats_after) _ p.first p.second
    (record { allowed = a.allowed; whole = a.whole; after_is = a.after_is })
    (record { allowed = b.allowed; whole = thin.whole; after_is = end_is }) in
    let views_mid : ViewsKeep (placed (world_after (first_world limit seats) before) a.keeper_after a.seats_after) old.chunks =
    record { parted = h.views.parted; stopped = h.views.stopped } in
    let views_end = views_thinned (placed (world_after (first_world limit seats) before) a.keeper_after a.seats_after)
    (world_after (placed (world_after (first_world limit seats) before) a.keeper_after a.seats_after) p.second) old.chunks
    (least_number new.keeper.numbers) thin.thinned views_mid in
    grown limit seats before events old new _ h
    (subst (λ (z : List Event). Leads (world_after (first_world limit seats) before) z
    (seated (world_after (placed (world_after (first_world limit seats) before) a.keeper_after a.seats_after)
    (frees (retired_spans old.chunks) (freed (least_number new.keeper.numbers) old.chunks))) b.seats_after)) (sym p.is) both)
    (record {
      marked = f.marked_is
          ∙ (ap (λ (m : MarkedText). unmarked m (freed (least_number new.keeper.numbers) old.chunks)) here ∙ sym is.marked);
      keeper = subst (KnowsNoMore new.keeper.numbers) (sym f.keeper_is) knows;
      spans = λ span. subst
          (λ (z : List Chunk). Contains
          (world_after (placed (world_after (first_world limit seats) before) a.keeper_after a.seats_after)
          (frees (retired_spans old.chunks)
          (freed (least_number new.keeper.numbers) old.chunks))).retired span ↔ Contains (retired_spans z) span)
          (sym is.chunks) (f.spans span);
    })
    (subst (λ (z : List Chunk). ViewsKeep
    (seated (world_after (placed (world_after (first_world limit seats) before) a.keeper_after a.seats_after)
    (frees (retired_spans old.chunks) (freed (least_number new.keeper.numbers) old.chunks))) b.seats_after) z) (sym is.chunks)
    (subst (λ (x : World). ViewsKeep x (kept (least_number new.keeper.numbers) old.chunks)) end_is views_end))
    (omega (arith, is.looked.generation, h.in_range))

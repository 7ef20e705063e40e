-- A schedule that has led to a region, and a patch more.
use Rattle.std.proofs.Common.{◌≡◌, ℕ, ◌-◌, ◌≤◌, List, ◌++◌, ◌∙◌, sym, ap, subst}
use Rattle.std.specs.Prelude.{Contains, ◌↔◌}
use Rattle.nc_text.specs.MarkedText.{MarkedText, with_span}
use Rattle.nc_gens.specs.Rule.{last_generation}
use Rattle.nc_gens.specs.Seen.{KeeperState}
use Rattle.nc_vet.specs.Chunk.{Piece}
use Rattle.nc_list.specs.declared.chunk.Chunk.{Chunk}
use Rattle.nc_region.specs.schedules.World.{first_world}
use Rattle.nc_region.specs.schedules.Events.{Event, world_after}
use Rattle.nc_region.specs.Patch.{IsPatch, IsPatched, AreBytesOf}
use Rattle.nc_region.specs.machinery.PatchSteps.{CanPatch}
use Rattle.nc_region.specs.Quiet.{retired_spans}
use Rattle.nc_region.specs.Region.{Region, IsRegion}
use Rattle.nc_acts.proofs.Offered.{same_code}
use Rattle.nc_region.proofs.Offered.{changed}
use Rattle.nc_histories.specs.Interleaving.{writers, ThreadsMay}
use Rattle.nc_histories.specs.Calls.{KnowsNoMore, HasLedTo, patch_events}
use Rattle.nc_histories.specs.Histories.{AreAttempts}
use Rattle.nc_histories.proofs.Creation.{start_good}
use Rattle.nc_histories.proofs.Entries.{events_of_instructions, patch_is}
use Rattle.nc_histories.proofs.OneMoreCall.{Grows, grown_beside, kept_there}
use Rattle.nc_histories.proofs.Parting.{Kept}
use Rattle.nc_histories.proofs.Patching.{Sound, patch_can, patch_ends}
use Rattle.nc_histories.proofs.PatchAgain.{patch_leads}
use Rattle.nc_histories.proofs.Putting.{Views, Reaches, reaches_as}
use Rattle.nc_histories.proofs.Turning.{patch_keeps}
use Rattle.nc_histories.proofs.Interleaved.{ArePlain, plain_again}

-- the events of a patch are plain
patch_plain : (text : List ℕ) (at : ℕ) (news : List Piece) → ArePlain (events_of_instructions text at news)
patch_plain = patch_keeps ArePlain (λ at byte more plain. (tt, plain)) (λ more plain. (tt, plain)) tt

-- the events of a patch, after attempts at it, lead to a world that stands for the new region
pub patched : (limit seats : ℕ) (before events : List Event) (old new : Region) (at : ℕ) (bytes : List ℕ) (news : List Piece)
    (made : List Event)
    → HasLedTo limit seats before old → IsRegion old.marked old.chunks → IsPatch old at bytes → AreBytesOf bytes news
    → IsPatched old new at bytes → AreAttempts (patch_events old.marked.bytes at news) made
    → writers events ≡ made ++ patch_events old.marked.bytes at news
    → ThreadsMay (world_after (first_world limit seats) before) events → Grows limit seats before events new
patched limit seats before events old new at bytes news made h region lawful b is attempts own threads =
    let w = world_after (first_world limit seats) before in
    let here = h.stands.marked in
    let held = lawful.1.1 in
    let patch = patch_can old at bytes lawful in
    let ends = patch_ends old at bytes region lawful in
    let good = start_good w old.chunks (kept_there limit seats before old h) h.views in
    let views : Views (λ view. Sound (world_after (first_world limit seats) before) old.chunks view)
    (world_after (first_world limit seats) before).marked.bytes (world_after (first_world limit seats) before).earlier =
    λ view v. record { good = good view v; stopped = h.views.stopped view v } in
    let same : patch_events old.marked.bytes at news ≡ events_of_instructions w.marked.bytes at news =
    ap (λ (m : MarkedText). patch_events m.bytes at news) (sym here) ∙ patch_is w.marked.bytes at news in
    let tried : AreAttempts (events_of_instructions w.marked.bytes at news) made =
    subst (λ (z : List Event). AreAttempts z made) same attempts in
    let leads = patch_leads news w old.chunks lawful.1.0 at bytes made (subst (λ (m : MarkedText). IsRegion m old.chunks) (sym here) region)
    (λ span has. (h.stands.spans span).0 has)
    held.0 held.1 held.2.0 (subst (λ (m : MarkedText). CanPatch m lawful.1.0 at bytes) (sym here) patch) b ends views tried in
    let keeper : new.keeper ≡ old.keeper = ap (λ (r : Region). r.keeper) is.others in
    let chunks : new.chunks ≡ old.chunks = ap (λ (r : Region). r.chunks) is.others in
    grown_beside limit seats before events (made ++ events_of_instructions w.marked.bytes at news) old new _ h
    (own ∙ ap (λ (z : List Event). made ++ z) same)
    (plain_again (events_of_instructions w.marked.bytes at news) made (events_of_instructions w.marked.bytes at news) tried
    (patch_plain w.marked.bytes at news) (patch_plain w.marked.bytes at news))
    (subst (λ (z : List Chunk). Reaches (world_after (first_world limit seats) before)
    (made ++ events_of_instructions (world_after (first_world limit seats) before).marked.bytes at news)
    (record (world_after (first_world limit seats) before) {
      marked = changed (world_after (first_world limit seats) before).marked at bytes;
    }) (Kept (world_after (first_world limit seats) before).marked.marks z)) (sym chunks)
    (reaches_as w (made ++ events_of_instructions w.marked.bytes at news) (record w { marked = changed w.marked at bytes })
    (λ view. Sound w old.chunks view) (Kept w.marked.marks old.chunks)
    (λ view s. record { parted = s.good.parted; stopped = s.stopped }) leads)) threads
    (record {
      marked =
          ap (λ (m : MarkedText). let x : MarkedText = record { bytes = with_span m.bytes (at - 65536) bytes; marks = m.marks } in x) here
          ∙ sym (same_code new.marked
          (record { bytes = with_span old.marked.bytes (at - 65536) bytes; marks = old.marked.marks }) is.patched
          (ap (λ (r : Region). r.marked.marks) is.others));
      keeper = subst (λ (x : KeeperState). KnowsNoMore x.numbers w.keeper) (sym keeper) h.stands.keeper;
      spans = λ span. subst (λ (z : List Chunk). Contains w.retired span ↔ Contains (retired_spans z) span) (sym chunks)
          (h.stands.spans span);
    })
    (subst (λ (x : KeeperState). x.numbers.generation ≤ last_generation) (sym keeper) h.in_range)

-- The calls of a region as events of a world.
use Rattle.std.specs.Prelude.{◌≡◌, ℕ, ◌<◌, ◌≤◌, ◌==◌, if◌then◌else◌, List, [], ◌∷◌, Contains, length, map, slice_index, ◌↔◌}
use Rattle.std.specs.List.{range_with_len, flat_map}
use Rattle.nc_decode.specs.declared.instruction.Mark.{Mark}
use Rattle.nc_decode.specs.Bundles.{IsLawfulLimit}
use Rattle.nc_gens.specs.declared.view.KeeperNumbers.{KeeperNumbers}
use Rattle.nc_gens.specs.Rule.{last_generation}
use Rattle.nc_vet.specs.Chunk.{MarkedChunk, Piece}
use Rattle.nc_list.specs.declared.chunk.Chunk.{Chunk}
use Rattle.nc_region.specs.schedules.Spans.{RetiredSpan}
use Rattle.nc_region.specs.schedules.World.{World, first_world}
use Rattle.nc_region.specs.schedules.Events.{Event, Puts, Serializes, Marks, Retires, Frees, Looks, world_after, AreAllowed}
use Rattle.nc_acts.specs.declared.acts.Act.{Act}
use Rattle.nc_acts.specs.declared.acts.Act.TheVariants.{Put, MarkSpan, UnmarkSpan, Bump, Look}
use Rattle.nc_acts.specs.declared.acts.Entry.{Entry}
use Rattle.nc_acts.specs.declared.acts.Entry.TheVariants.{Did, Serialized}
use Rattle.nc_acts.specs.Log.{only_acts, log_of_create, log_of_delete}
use Rattle.nc_region.specs.Patch.{log_of_patch}
use Rattle.nc_region.specs.Deletion.{freed, unmarkings}
use Rattle.nc_region.specs.Quiet.{retired_spans}
use Rattle.nc_region.specs.Region.{Region}
use Rattle.nc_histories.specs.Views.{ViewsKeep}

-- A keeper's numbers say no more than those of the world's keeper: they have the same generation and as many bounds, each at
-- most the world's. "Left" is the greatest word, and the world's other bounds are at most the generation. So a bound says that
-- a seat has left only if the world's bound does. How often each word was looked at doesn't matter.
pub record KnowsNoMore (k world : KeeperNumbers) : Type 0 where
  pub generation : k.generation ≡ world.generation
  pub seats : length k.bounds ≡ length world.bounds
  pub below : (i : ℕ) → i < length k.bounds → slice_index k.bounds i ≤ slice_index world.bounds i

-- The world stands for the region: it has the region's text and marks, and as retired spans those of its retired chunks, in
-- any order. The generation is that of the region's keeper, and the bounds are at least that keeper's (`KnowsNoMore`).
pub record StandsFor (w : World) (r : Region) : Type 0 where
  pub marked : w.marked ≡ r.marked
  pub keeper : KnowsNoMore r.keeper.numbers w.keeper
  pub spans : (span : RetiredSpan) → Contains w.retired span ↔ Contains (retired_spans r.chunks) span

-- The events lead to the region: each was allowed where it happened, and the world they leave stands for the region. In
-- every view of that world no instruction at a marked place overlaps another marked place, and marked places outside live
-- chunks hold F4. The limit is lawful, and the generation at most 2^62.
pub record HasLedTo (limit seats : ℕ) (events : List Event) (r : Region) : Type 0 where
  pub lawful : IsLawfulLimit limit
  pub allowed : AreAllowed (first_world limit seats) events
  pub stands : StandsFor (world_after (first_world limit seats) events) r
  pub views : ViewsKeep (world_after (first_world limit seats) events) r.chunks
  pub in_range : r.keeper.numbers.generation ≤ last_generation

-- the details that acts leave open: the marks that a span gets, the span for which a stamp is drawn, the number of seats
-- that are looked at, and the retired spans, of which one is freed
pub record Details : Type 0 where
  pub marks : List Mark
  pub base : ℕ
  pub len : ℕ
  pub seats : ℕ
  pub spans : List RetiredSpan

-- the first span of the list that has this base, or else an empty one
abbrev pub span_from : List RetiredSpan → ℕ → RetiredSpan
span_from [] at = record { base = at; length = 0; stamp = 0 }
span_from (span ∷ rest) at = if span.base == at then span else span_from rest at

-- the events of an act: a put, a marking with these marks, the freeing of the span with that base, the retiring of this
-- span, or a load of each seat's word in the order of the seats
abbrev pub events_of_act : Details → Act → List Event
events_of_act d (Put at byte) = Puts at byte ∷ []
events_of_act d (MarkSpan at len) = Marks at d.marks ∷ []
events_of_act d (UnmarkSpan at len) = Frees (span_from d.spans at) ∷ []
events_of_act d Bump = Retires d.base d.len ∷ []
events_of_act d Look = map Looks (range_with_len 0 d.seats)

-- The events of an entry of a log: those of its act, or a serialization.
abbrev pub events_of_entry : Details → Entry → List Event
events_of_entry d (Did act) = events_of_act d act
events_of_entry d Serialized = Serializes ∷ []

-- the events of a log: those of its entries, concatenated
abbrev pub events_of_log : Details → List Entry → List Event
events_of_log d log = flat_map (events_of_entry d) log

-- empty details, for acts that leave nothing open
abbrev pub no_details : Details
no_details = record { marks = []; base = 0; len = 0; seats = 0; spans = [] }

-- the events of the log of a creation, with the chunk's marks
abbrev pub create_events : MarkedChunk → List Event
create_events v = events_of_log (record no_details { marks = v.marks }) (log_of_create v.base v.code)

-- the events of the log of a patch
abbrev pub patch_events : List ℕ → ℕ → List Piece → List Event
patch_events text at news = events_of_log no_details (log_of_patch text at news)

-- the events of the log of a deletion, in which drawing the stamp retires the chunk's span
abbrev pub delete_events : List Mark → ℕ → ℕ → List Event
delete_events marks base len = events_of_log (record no_details { base = base; len = len }) (log_of_delete marks base len)

-- the events of a reclaim: one look at each seat in order, then `Frees` for each freed span; there is no serialization
abbrev pub reclaim_events : ℕ → ℕ → List Chunk → List Event
reclaim_events seats least chunks =
    events_of_log (record no_details { seats = seats; spans = retired_spans chunks })
    (only_acts (Look ∷ unmarkings (freed least chunks)))

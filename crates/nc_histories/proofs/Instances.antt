-- Histories that are instances of clauses of the law: a region over an unused keeper, threads that leave the region as it is,
-- a refused call, and a meeting.
use Rattle.std.proofs.Common.{◌≡◌, ℕ, ◌≤◌, List, [], ◌∷◌, ◌++◌, arith, refl, sym, ap, subst}
use Rattle.std.specs.Prelude.{All}
use Rattle.std.proofs.lemmas.List.Elements.{All-nil, All-cons}
use Rattle.nc_decode.specs.Bundles.{IsLawfulLimit}
use Rattle.nc_text.specs.MarkedText.{unused_text}
use Rattle.nc_gens.specs.declared.view.KeeperNumbers.{KeeperNumbers}
use Rattle.nc_gens.specs.Rule.{first_keeper_numbers, last_generation}
use Rattle.nc_gens.specs.Seen.{PassState, HasMet}
use Rattle.nc_region.specs.schedules.World.{first_world}
use Rattle.nc_region.specs.schedules.Events.{Event, Looks, world_after}
use Rattle.nc_region.specs.Region.{Region}
use Rattle.nc_histories.specs.Interleaving.{writers, IsKeepers, ThreadsMay}
use Rattle.nc_histories.specs.Calls.{KnowsNoMore, HasLedTo}
use Rattle.nc_histories.specs.Histories.{IsRefusal}
use Rattle.nc_histories.proofs.OneMoreCall.{Grows, goes_on}
use Rattle.nc_histories.proofs.Keeping.{begins, keeper}
use Rattle.nc_histories.proofs.Knowing.{knows_as_much}
use Rattle.nc_histories.proofs.Refusals.{refusal_same, refusal_silent}

-- a region over an unused keeper, before any event
pub begins_unused : (limit seats : ℕ) (r : Region) → IsLawfulLimit limit → r.marked ≡ unused_text limit → r.chunks ≡ []
    → r.keeper.numbers ≡ first_keeper_numbers seats → HasLedTo limit seats [] r
begins_unused limit seats r lawful marked chunks unused =
    (begins limit seats [] r lawful marked chunks (All-nil IsKeepers) tt
    (knows_as_much r.keeper.numbers (first_keeper_numbers seats) (sym unused))
    (subst (λ (k : KeeperNumbers). k.generation ≤ last_generation) (sym unused) (omega arith))).led

-- threads by themselves leave a world that stands for the same region
pub threads_go_on : (limit seats : ℕ) (before events : List Event) (r : Region) → HasLedTo limit seats before r → writers events ≡ []
    → ThreadsMay (world_after (first_world limit seats) before) events → Grows limit seats before events r
threads_go_on limit seats before events r h is threads = goes_on limit seats before events r r h refl is threads

-- a call that was refused
pub refused : (limit seats : ℕ) (before events : List Event) (old new : Region) → HasLedTo limit seats before old
    → IsRefusal old new (writers events) → ThreadsMay (world_after (first_world limit seats) before) events
    → Grows limit seats before events new
refused limit seats before events old new h is threads =
    goes_on limit seats before events old new h (refusal_same old new (writers events) is) (refusal_silent old new (writers events) is)
    threads

-- a meeting with the keeper leads to a world that stands for the new region
pub met : (limit seats : ℕ) (before events : List Event) (old new : Region) (pass after : PassState) → HasLedTo limit seats before old
    → HasMet pass old.keeper after new.keeper → new ≡ record old { keeper = new.keeper } → writers events ≡ Looks pass.seat ∷ []
    → ThreadsMay (world_after (first_world limit seats) before) events
    → KnowsNoMore new.keeper.numbers (world_after (first_world limit seats) (before ++ events)).keeper
    → HasLedTo limit seats (before ++ events) new
met limit seats before events old new pass after h meets others own threads found =
    (keeper limit seats before events old new h (ap (λ (r : Region). r.marked) others) (ap (λ (r : Region). r.chunks) others)
    (subst (All IsKeepers) (sym own) (All-cons IsKeepers (Looks pass.seat) [] tt (All-nil IsKeepers)))
    threads found meets.in_range).led

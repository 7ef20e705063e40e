-- A reclaim in a history, and a world in which every seat has checked in since a stamp or has left.
use Rattle.std.specs.Prelude.{◌≡◌, ℕ, ◌≤◌, All}
use Rattle.nc_gens.specs.Seen.{least_number}
use Rattle.nc_region.specs.schedules.World.{World, Seat}
use Rattle.nc_region.specs.Region.{Region}
use Rattle.nc_region.specs.Deletion.{IsReclaimed}
use Rattle.nc_histories.specs.Interleaving.{writers}
use Rattle.nc_histories.specs.Calls.{reclaim_events}
use Rattle.nc_histories.specs.Histories.{Turn}

-- the word of each seat, which is the generation that its last check-in took or the greater "left", is at least the stamp
abbrev pub AllHavePassed : World → ℕ → Type 0
AllHavePassed w stamp = All (λ (seat : Seat). stamp ≤ seat.pass.word) w.seats

-- the turn is a reclaim: the region is reclaimed (`IsReclaimed` of nc_region), and the writer's events are a reclaim's
pub record IsReclaimTurn (seats : ℕ) (old : Region) (turn : Turn) : Type 0 where
  pub count : ℕ
  pub reclaimed : IsReclaimed old turn.region count
  pub own : writers turn.events ≡ reclaim_events seats (least_number turn.region.keeper.numbers) old.chunks

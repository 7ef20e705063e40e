-- The ranges of the numbers that a command line of `nc_replay` may ask for.
use Rattle.nc_gens.specs.Seen.{AreSeats}
use Rattle.nc_decode.specs.Bundles.{IsRegionSize}
use Rattle.nc_work.specs.Verdicts.{AreWorkers}
use Rattle.nc_command.specs.declared.carrying.Ask.{Ask}
use Rattle.nc_command.specs.declared.carrying.Ask.TheVariants.{Replay, Vet}

-- the numbers that are asked for are in the ranges of bundles, of seats and of workers
abbrev pub AsksInRange : Ask → Type 0
AsksInRange (Replay bundles seats) = IsRegionSize bundles × AreSeats seats
AsksInRange (Vet bundles workers) = IsRegionSize bundles × AreWorkers workers

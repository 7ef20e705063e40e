use Rattle.std.proofs.Common.{arith, rules}
use Rattle.nc_work.proofs.Offered.{places_hold}
use Rattle.nc_files.specs.Places.{FitsReport}
use Rattle.nc_files.proofs.PlacedReports.{places_fit}
use Rattle.nc_files.proofs.working.judge_files.Goals as goal

pub returns : goal.returns
returns g c =
    places_fit c.args.request.now c.args.files.now c.in_ok-places.places.items
    (omega (arith, c.in_ok-places.ensures.len, c.in_ok-places.places.ok.0))
    (places_hold _ _ (FitsReport c.args.request.now c.args.files.now) (λ k. tt) (λ k report before after called. search rules) _
    c.in_ok-places.ensures.each)

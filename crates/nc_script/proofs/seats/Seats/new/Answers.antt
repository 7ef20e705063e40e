-- The passes stand at their seats' places.
use Rattle.std.proofs.Common.{List, Option, Some, map, length, ap, sym, ◌∙◌, subst}
use Rattle.nc_gens.specs.Seen.{PassState}
use Rattle.nc_script.specs.machinery.Session.{AreSeated}
use Rattle.nc_script.proofs.seating.Passes.{seated_first}
use Rattle.nc_script.proofs.seats.Seats.new.Goals as goal

pub invariant_of-result : goal.invariant_of-result
invariant_of-result c =
    let table = c.args.gens.now in
    subst (λ (held : List (Option PassState)). AreSeated table held)
    (ap (λ (ps : List PassState). map (λ (q : PassState). Some q) ps) (sym c.requires) ∙ sym c.in_ok-passes.ensures)
    (seated_first table (length c.args.passes.items))

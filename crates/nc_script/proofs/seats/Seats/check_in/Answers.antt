use Rattle.std.proofs.Common.{◌∙◌, ◌++◌, List, Option, length, take, drop, arith, ap, sym, subst}
use Rattle.std.proofs.lemmas.List.{take_at}
use Rattle.nc_gens.specs.Seen.{PassState}
use Rattle.nc_script.specs.machinery.Session.{SeatsState, AreSeated}
use Rattle.nc_script.specs.machinery.Seats.{ChecksIn}
use Rattle.nc_script.proofs.seats.Seats.check_in.Goals as goal

pub invariant_of-self : goal.invariant_of-self
invariant_of-self g c =
    let back = take_at c.check_in_at.new.passes (drop (length c.check_in_at.new.passes) c.self.inside.passes.items) c.self.inside.passes.len
    (omega (arith, c.as_mut_slice.ensures.len, c.check_in_at.auto.passes)) in
    subst (AreSeated c.self.inside.gens.now) (sym back) c.check_in_at.ensures.seated

pub returns-clause-checks : goal.returns-clause-checks
returns-clause-checks g c =
    let back = take_at c.check_in_at.new.passes (drop (length c.check_in_at.new.passes) c.self.inside.passes.items) c.self.inside.passes.len
    (omega (arith, c.as_mut_slice.ensures.len, c.check_in_at.auto.passes)) in
    let after = take c.self.inside.passes.len (c.check_in_at.new.passes ++ drop (length c.check_in_at.new.passes) c.self.inside.passes.items) in
    subst (λ (old : List (Option PassState)). ChecksIn c.check_in_at.result c.args.seat old c.args.region.now after c.check_in_at.new.region)
    (c.as_mut_slice.ensures.value ∙ ap (λ (s : SeatsState). s.passes) c.self.view_is)
    (subst (λ (new : List (Option PassState)). ChecksIn c.check_in_at.result c.args.seat c.as_mut_slice.result.now c.args.region.now new
    c.check_in_at.new.region) (sym back) c.check_in_at.ensures.checks)

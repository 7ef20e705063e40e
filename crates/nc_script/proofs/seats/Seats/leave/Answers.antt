use Rattle.std.proofs.Common.{arith, sym, subst, length, drop}
use Rattle.std.proofs.lemmas.Grind.{common_steps}
use Rattle.std.proofs.lemmas.List.{take_at}
use Rattle.nc_script.specs.machinery.Session.{AreSeated}
use Rattle.nc_script.proofs.seating.Passes.{seated_taken}
use Rattle.nc_script.proofs.seats.Seats.leave.Goals as goal

pub invariant_of-self : goal.invariant_of-self
invariant_of-self c =
    let table = c.self.inside.gens.now in
    let passes = c.self.inside.passes in
    let back = take_at c.take_pass.new.passes (drop (length c.take_pass.new.passes) passes.items) passes.len (omega (arith, c.as_mut_slice.ensures.len, c.take_pass.auto.passes)) in
    subst (AreSeated table) (sym back)
    (seated_taken table c.as_mut_slice.result.now c.take_pass.new.passes c.args.seat c.take_pass.result c.take_pass.ensures
    (subst (AreSeated table) (sym c.as_mut_slice.ensures.value) c.self.invariant))

pub returns-clause-leaves : goal.returns-clause-leaves
returns-clause-leaves c = grind (arith, common_steps)

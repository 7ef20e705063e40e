use Rattle.std.proofs.Common.{rules, arith, ◌≡◌, ℕ, [], ◌∷◌, subst}
use Rattle.std.proofs.lemmas.Grind.{common_steps}
use Rattle.nc_gens.specs.declared.view.WordStep.TheVariants.{TookWord}
use Rattle.nc_gens.specs.Seen.{KeeperSteps}
use Rattle.nc_gens.proofs.Offered.{steps_both}
use Rattle.nc_host_handles.proofs.attending.attend_one.Goals as goal

pub meet-requires : goal.meet-requires
meet-requires c = grind (arith, common_steps)

pub returns-clause-steps : goal.returns-clause-steps
returns-clause-steps c =
    let seat : c.check_in.new.pass.seat ≡ c.args.pass.now.seat = search rules in
    steps_both c.args.region.now.keeper c.meet.new.self.keeper c.meet-2.new.self.keeper (TookWord c.args.pass.now.seat ∷ [])
    (TookWord c.args.pass.now.seat ∷ []) c.meet.ensures.met.steps_of_keeper
    (subst (λ (n : ℕ). KeeperSteps c.meet.new.self.keeper c.meet-2.new.self.keeper (TookWord n ∷ [])) seat c.meet-2.ensures.met.steps_of_keeper)

use Rattle.std.proofs.Common.{◌≡◌, arith, ap, ◌∙◌, fold, take_all}
use Rattle.std.proofs.lemmas.Grind.{common_steps}
use Rattle.nc_gens.proofs.LeastNumber.{lower, fold-lower, fold-lower_le, fold-lower_below}
use Rattle.nc_gens.proofs.keeper.least_bound.Goals as goal

-- the loop has gone through all bounds
whole : (c : goal.After-loop-bound) → c.loop-bound.least ≡ fold lower c.args.generation c.args.bounds.now
whole c = c.loop-bound.invariant ∙ ap (fold lower c.args.generation)
    (take_all c.loop-bound.bound-index c.args.bounds.now c.loop-bound-test.false)

pub loop-bound-preserved : goal.loop-bound-preserved
loop-bound-preserved c = grind (arith, common_steps)

pub returns-clause-least : goal.returns-clause-least
returns-clause-least c = whole c ∙ fold-lower c.args.generation c.args.bounds.now (λ i l. c.requires i 0 l)

pub returns-clause-below : goal.returns-clause-below
returns-clause-below c = λ i d l ne. let is = whole c in let le = fold-lower_below c.args.generation c.args.bounds.now i d l ne in
    omega arith

pub returns-clause-at_most : goal.returns-clause-at_most
returns-clause-at_most c = let is = whole c in let le = fold-lower_le c.args.generation c.args.bounds.now in omega arith

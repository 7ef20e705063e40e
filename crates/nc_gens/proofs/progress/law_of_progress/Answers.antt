use Rattle.std.proofs.Common.{inl, length, subst}
use Rattle.nc_gens.proofs.Loads.{each_loaded, is_before, past_from}
use Rattle.nc_gens.proofs.Passing.{have_passed}
use Rattle.nc_gens.specs.Trail.{IsRising}
use Rattle.nc_gens.proofs.progress.law_of_progress.Goals as goal

pub returns-clause-before : goal.returns-clause-before
returns-clause-before c = is_before

pub returns-clause-passed : goal.returns-clause-passed
returns-clause-passed c = λ old new stamp known looked drawn b passed.
    past_from old new stamp known b.rest looked drawn b.parts
    (λ k inside. each_loaded (length new.numbers.bounds) k b.rest b.others inside b.loads) (λ k inside. inl (passed k inside))

pub returns-clause-seats : goal.returns-clause-seats
returns-clause-seats c = λ old new stamp known looked low b each.
    have_passed (length new.numbers.bounds) stamp known b.rest (subst (IsRising (length new.numbers.bounds)) b.parts looked.rising) low each

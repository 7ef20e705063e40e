use Rattle.std.proofs.Common.{arith}
use Rattle.std.proofs.lemmas.Grind.{common_steps}
use Rattle.nc_vet.proofs.vetting.check_span.Goals as goal

pub returns : goal.returns
returns c = record {
  fine = record {
    lawful = c.is_lawful_limit.ensures.0 c.if-not-is_lawful_limit.false;
    start = c.is_bundle_start.ensures.0 c.if-not-is_bundle_start.false;
    whole = c.if-len-ne0.false;
    some = omega arith;
    low = omega arith;
    high = omega arith;
  };
  fault = tt;
}

pub returns-then-len-eq0-clause-fault : goal.returns-then-len-eq0-clause-fault
returns-then-len-eq0-clause-fault c = grind (arith, common_steps)

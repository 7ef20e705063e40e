use Rattle.std.proofs.Common.{arith, eqb-true, eq-eqb, length}
use Rattle.nc_lines.proofs.Cuts.{IsOpen-before}
use Rattle.nc_lines.proofs.lines.first_end.Goals as goal

pub returns-in-Some : goal.returns-in-Some
returns-in-Some c = record {
  within = omega (arith, c.in-Some.ensures.0.high);
  «open» = IsOpen-before c.args.bytes.now c.in-Some.end
      (λ k below is. c.in-Some.ensures.0.before k (omega arith) below (eq-eqb _ 10 is));
  end = λ _. eqb-true _ 10 c.in-Some.ensures.1;
}

pub returns-in-None : goal.returns-in-None
returns-in-None c = record {
  within = omega arith;
  «open» = IsOpen-before c.args.bytes.now (length c.args.bytes.now)
      (λ k below is. c.in-None.ensures k (omega arith) below (eq-eqb _ 10 is));
  end = λ below. absurd (omega arith);
}

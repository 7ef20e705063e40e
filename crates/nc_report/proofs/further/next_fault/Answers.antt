use Rattle.std.proofs.Common.{sym, ◌∙◌, arith}
use Rattle.nc_report.proofs.QuietPlaces.{faultless_on, faultless_past}
use Rattle.nc_report.proofs.further.next_fault.Goals as goal

pub returns-then-place-judged-clause-faultless : goal.returns-then-place-judged-clause-faultless
returns-then-place-judged-clause-faultless c =
    let judged = c.args.judged.now in
    faultless_on judged.base judged.limit judged.code.now c.args.classes.now c.args.from c.loop-at.at c.next_candidate-place.result
    c.loop-at.invariant.faultless c.next_candidate-place.ensures.quiet

pub returns-in-Some-clause-faultless : goal.returns-in-Some-clause-faultless
returns-in-Some-clause-faultless c =
    let judged = c.args.judged.now in
    faultless_on judged.base judged.limit judged.code.now c.args.classes.now c.args.from c.loop-at.at c.next_candidate-place.result
    c.loop-at.invariant.faultless c.next_candidate-place.ensures.quiet

pub loop-at-preserved : goal.loop-at-preserved
loop-at-preserved c =
    let judged = c.args.judged.now in
    let place = c.next_candidate-place.result in
    record {
      low = omega (arith, c.loop-at.invariant.low, c.next_candidate-place.ensures.low);
      within = omega (arith, c.if-place-judged.false);
      known = c.next_candidate-place.ensures.known;
      faultless = faultless_past judged.base judged.limit judged.code.now c.args.classes.now c.args.from place
          (faultless_on judged.base judged.limit judged.code.now c.args.classes.now c.args.from c.loop-at.at place
          c.loop-at.invariant.faultless c.next_candidate-place.ensures.quiet)
          (sym c.fault_at.ensures ∙ c.in-None.is);
    }

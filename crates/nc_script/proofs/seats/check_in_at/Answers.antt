use Rattle.std.proofs.Common.{refl, sym, ◌∙◌}
use Rattle.std.proofs.lemmas.List.{set-get_or}
use Rattle.nc_script.proofs.seating.Passes.{none_past, none_there, seated_same, seated_set, there_at}
use Rattle.nc_script.proofs.seats.check_in_at.Goals as goal

pub returns-then-seat-passes-clause-checks : goal.returns-then-seat-passes-clause-checks
returns-then-seat-passes-clause-checks g c = (none_past c.args.passes.now c.args.seat c.if-seat-passes.true, refl, refl)

pub check_in_pass-requires-clause-table : goal.check_in_pass-requires-clause-table
check_in_pass-requires-clause-table g c =
    let there = there_at c.args.passes.now c.args.seat _ c.in-Some.pass c.if-seat-passes.false c.in-Some.is in
    (c.requires.seated c.args.seat c.in-Some.pass there).0

pub returns-in-Some-clause-checks : goal.returns-in-Some-clause-checks
returns-in-Some-clause-checks g c =
    let there = there_at c.args.passes.now c.args.seat _ c.in-Some.pass c.if-seat-passes.false c.in-Some.is in
    record {
      pass = c.in-Some.pass;
      now = c.check_in_pass.new.pass;
      there = there;
      seated = (c.requires.seated c.args.seat c.in-Some.pass there).1;
      passes = refl;
      checked = c.check_in_pass.ensures.checked;
      others = c.check_in_pass.ensures.others;
    }

pub returns-in-Some-clause-seated : goal.returns-in-Some-clause-seated
returns-in-Some-clause-seated g c =
    let there = there_at c.args.passes.now c.args.seat _ c.in-Some.pass c.if-seat-passes.false c.in-Some.is in
    let seated = c.requires.seated c.args.seat c.in-Some.pass there in
    let checked = c.check_in_pass.ensures.checked in
    seated_set c.args.gens.now c.args.passes.now c.args.seat c.check_in_pass.new.pass c.requires.seated (checked.table ∙ seated.0)
    (checked.seat ∙ seated.1)

pub returns-clause-checks : goal.returns-clause-checks
returns-clause-checks g c = (
  none_there c.args.passes.now c.args.seat c.index-passes-seat.result c.if-seat-passes.false c.index-passes-seat.is
      (λ p h. c.in_default.not-Some p (sym c.index-passes-seat.is ∙ h)),
  set-get_or c.args.passes.now c.args.seat c.index-passes-seat.result,
  refl,
)

pub returns-clause-seated : goal.returns-clause-seated
returns-clause-seated g c = seated_same c.args.gens.now c.args.passes.now c.args.seat c.index-passes-seat.result c.requires.seated

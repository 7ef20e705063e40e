use Rattle.std.proofs.Common.{rules, sym, subst}
use Rattle.std.proofs.lemmas.List.{take_rest, nil_from_length}
use Rattle.nc_report.specs.machinery.Runs.{HasCounted}
use Rattle.nc_report.proofs.CountedRuns.{none_counted, count_more, all_counted}
use Rattle.nc_report.proofs.outside.push_counts.Goals as goal

pub loop-rest-init : goal.loop-rest-init
loop-rest-init c = none_counted c.args.format c.args.numbers.now c.args.out.now.items c.requires

pub loop-rest-preserved : goal.loop-rest-preserved
loop-rest-preserved c =
    subst (HasCounted c.args.format c.args.numbers.now c.args.out.now.items c.push_row.new.out.items)
    (sym (take_rest c.loop-rest.rest.now c.run_of-times.result))
    (count_more c.args.format c.args.numbers.now c.args.out.now.items c.loop-rest.out.items c.push_row.new.out.items c.loop-rest.rest.now
    c.run_of-times.result c.loop-rest.invariant c.run_of-times.ensures c.in_ok-push_row.ensures)

pub returns : goal.returns
returns c = all_counted c.args.format c.args.numbers.now c.args.out.now.items c.loop-rest.out.items c.loop-rest.rest.now c.loop-rest.invariant
    (nil_from_length c.loop-rest.rest.now (search rules))

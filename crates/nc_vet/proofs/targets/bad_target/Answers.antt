use Rattle.std.proofs.Common.{arith}
use Rattle.nc_vet.specs.Listed.{listed}
use Rattle.nc_vet.proofs.Pieces.{read_len}
use Rattle.nc_vet.proofs.Judging.{judged_more, first_bad_target, judged_all}
use Rattle.nc_vet.proofs.targets.bad_target.Goals as goal

pub has_bad_target_at-requires-clause-each : goal.has_bad_target_at-requires-clause-each
has_bad_target_at-requires-clause-each c = read_len c.args.code.now (listed c.args.code.now c.args.marks.now) c.requires.read

pub returns-then-has_bad_target_at-clause-bad : goal.returns-then-has_bad_target_at-clause-bad
returns-then-has_bad_target_at-clause-bad c =
    let h = c.loop-at.invariant in
    first_bad_target c.args.base c.args.limit c.args.code.now (listed c.args.code.now c.args.marks.now) c.loop-at.at h
    (c.has_bad_target_at.ensures.bad h.read c.if-has_bad_target_at.true)

pub loop-at-preserved : goal.loop-at-preserved
loop-at-preserved c =
    let h = c.loop-at.invariant in
    judged_more c.args.base c.args.limit c.args.code.now (listed c.args.code.now c.args.marks.now) c.loop-at.at h
    (c.has_bad_target_at.ensures.good h.read c.if-has_bad_target_at.false)

pub returns-clause-good : goal.returns-clause-good
returns-clause-good c = judged_all c.args.base c.args.limit c.args.code.now
    (listed c.args.code.now c.args.marks.now) c.loop-at.at c.loop-at.invariant (omega arith)

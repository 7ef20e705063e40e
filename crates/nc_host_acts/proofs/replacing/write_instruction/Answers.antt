use Rattle.std.proofs.Common.{◌+◌, ◌≤◌, List, length, get_or, arith, sym, subst}
use Rattle.nc_acts.specs.declared.acts.Act.TheVariants.{Put}
use Rattle.nc_acts.specs.declared.acts.Entry.{Entry}
use Rattle.nc_acts.specs.declared.acts.Entry.TheVariants.{Did, Serialized}
use Rattle.nc_host_acts.specs.Written.{AddsEntries}
use Rattle.nc_host_acts.proofs.writing.WriteSteps.{adds_put}
use Rattle.nc_host_acts.proofs.writing.Replacements.{longer_added, rest_counted}
use Rattle.nc_host_acts.proofs.replacing.write_instruction.Goals.{After-write_all-count}
use Rattle.nc_region.proofs.Offered.{log_of_one}
use Rattle.nc_host_acts.proofs.replacing.write_instruction.Goals as goal

pub returns-then-bytes-eq1-clause-written : goal.returns-then-bytes-eq1-clause-written
returns-then-bytes-eq1-clause-written c =
    subst (λ (z : List Entry). AddsEntries c.args.acts.now c.args.from c.write.new.acts c.write.result z)
    (sym (log_of_one c.args.at c.args.bytes.now c.if-bytes-eq1.true))
    (adds_put c.args.acts.now c.write.new.acts c.args.from c.write.result (Did (Put c.args.at (get_or c.args.bytes.now 0 0))) c.put.result
    c.write.ensures.acts c.write.ensures.count c.put.ensures (omega (arith, c.requires.room, c.requires.some)))

-- behind the bytes but the first there is room for two more acts
two_left : (c : After-write_all-count) → c.write_all-count.result + 2 ≤ length c.write_all-count.new.acts
two_left c =
    omega (
      arith,
      c.requires.room,
      c.requires.some,
      c.if-bytes-eq1.false,
      c.write_all-count.ensures.len,
      c.write-count.auto.acts,
      c.write-count.ensures.count,
      c.write-stopped.auto.acts,
      c.write-stopped.ensures.count,
      rest_counted c.args.at c.args.bytes.now c.write-stopped.new.acts c.write_all-count.new.acts c.write-stopped.result
          c.write_all-count.result c.write_all-count.ensures,
    )

pub write-serialized-requires : goal.write-serialized-requires
write-serialized-requires c = omega (arith, two_left (goal.at.write-serialized-requires c).After-write_all-count)

pub write-requires-2 : goal.write-requires-2
write-requires-2 c =
    omega (arith, two_left (goal.at.write-requires-2 c).After-write_all-count, c.write-serialized.auto.acts, c.write-serialized.ensures.count)

pub returns-clause-within : goal.returns-clause-within
returns-clause-within c =
    omega (
      arith,
      c.requires.some,
      c.if-bytes-eq1.false,
      c.write-count.ensures.count,
      c.write-stopped.ensures.count,
      c.write-serialized.ensures.count,
      c.write-2.ensures.count,
      rest_counted c.args.at c.args.bytes.now c.write-stopped.new.acts c.write_all-count.new.acts c.write-stopped.result
          c.write_all-count.result c.write_all-count.ensures,
    )

pub returns-clause-written : goal.returns-clause-written
returns-clause-written c =
    let left = two_left (goal.at.returns-clause-written c).After-write_all-count in
    longer_added c.args.at c.args.bytes.now c.args.acts.now c.write-count.new.acts c.write-stopped.new.acts c.write_all-count.new.acts
    c.write-serialized.new.acts c.write-2.new.acts c.args.from c.write-count.result c.write-stopped.result c.write_all-count.result
    c.write-serialized.result c.write-2.result (omega (arith, c.requires.some, c.if-bytes-eq1.false))
    (adds_put c.args.acts.now c.write-count.new.acts c.args.from c.write-count.result (Did (Put c.args.at 244)) c.put-2.result
    c.write-count.ensures.acts c.write-count.ensures.count c.put-2.ensures (omega (arith, c.requires.room, c.requires.some)))
    (adds_put c.write-count.new.acts c.write-stopped.new.acts c.write-count.result c.write-stopped.result Serialized c.serialize.result
    c.write-stopped.ensures.acts c.write-stopped.ensures.count c.serialize.ensures
    (omega (arith, c.requires.room, c.requires.some, c.if-bytes-eq1.false, c.write-count.auto.acts, c.write-count.ensures.count)))
    c.write_all-count.ensures
    (adds_put c.write_all-count.new.acts c.write-serialized.new.acts c.write_all-count.result c.write-serialized.result Serialized c.serialize-2.result
    c.write-serialized.ensures.acts c.write-serialized.ensures.count c.serialize-2.ensures
    (omega (arith, left)))
    (adds_put c.write-serialized.new.acts c.write-2.new.acts c.write-serialized.result c.write-2.result
    (Did (Put c.args.at (get_or c.args.bytes.now 0 0))) c.put-3.result c.write-2.ensures.acts c.write-2.ensures.count c.put-3.ensures
    (omega (arith, left, c.write-serialized.auto.acts, c.write-serialized.ensures.count)))

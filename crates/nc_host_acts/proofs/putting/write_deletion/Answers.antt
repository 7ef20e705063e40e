use Rattle.std.proofs.Common.{arith, sym, ◌∙◌, ap, ℕ, List, ◌≡◌, length, set, replicate, true, false}
use Rattle.std.proofs.lemmas.List.{length-replicate, length-set}
use Rattle.nc_host_acts.specs.declared.act.NcAct.{NcAct}
use Rattle.nc_host_acts.specs.machinery.Writing.{marks_if}
use Rattle.nc_host_acts.proofs.writing.WriteSteps.{put_all}
use Rattle.nc_host_acts.proofs.writing.WholeLists.{both_of_delete, first_written, deletion_written}
use Rattle.nc_host_acts.proofs.putting.write_deletion.Goals as goal

pub write_stops-marked-requires-clause-room : goal.write_stops-marked-requires-clause-room
write_stops-marked-requires-clause-room g c =
    omega (arith, c.requires.room, both_of_delete (g.C.ReadChunk.marks c.args.chunk.now) c.args.base (length (g.C.ReadChunk.code c.args.chunk.now)))

pub write-serialized-requires : goal.write-serialized-requires
write-serialized-requires g c =
    let marks = g.C.ReadChunk.marks c.args.chunk.now in
    let len = length (g.C.ReadChunk.code c.args.chunk.now) in
    let one = first_written (marks_if true marks c.args.base) c.args.base (replicate {A = ℕ} len 244) c.args.acts.now
    c.write_stops-marked.new.acts len c.write_stops-marked.result (sym (length-replicate {A = ℕ} len 244)) c.write_stops-marked.ensures in
    omega (arith, one.len, one.counted, c.requires.room, both_of_delete marks c.args.base len)

pub write_stops-count-requires-clause-room : goal.write_stops-count-requires-clause-room
write_stops-count-requires-clause-room g c =
    let marks = g.C.ReadChunk.marks c.args.chunk.now in
    let len = length (g.C.ReadChunk.code c.args.chunk.now) in
    let one = first_written (marks_if true marks c.args.base) c.args.base (replicate {A = ℕ} len 244) c.args.acts.now
    c.write_stops-marked.new.acts len c.write_stops-marked.result (sym (length-replicate {A = ℕ} len 244)) c.write_stops-marked.ensures in
    let same : length c.write-serialized.new.acts ≡ length c.write_stops-marked.new.acts =
    ap (λ (z : List NcAct). length z) c.write-serialized.ensures.acts
    ∙ length-set c.write_stops-marked.new.acts c.write_stops-marked.result c.serialize.result in
    omega (arith, one.len, one.counted, c.requires.room, c.write-serialized.ensures.count, same, both_of_delete marks c.args.base len)

pub write-requires : goal.write-requires
write-requires g c =
    let marks = g.C.ReadChunk.marks c.args.chunk.now in
    let len = length (g.C.ReadChunk.code c.args.chunk.now) in
    let end = sym (length-replicate {A = ℕ} len 244) in
    let one = first_written (marks_if true marks c.args.base) c.args.base (replicate {A = ℕ} len 244) c.args.acts.now
    c.write_stops-marked.new.acts len c.write_stops-marked.result end c.write_stops-marked.ensures in
    let same : length c.write-serialized.new.acts ≡ length c.write_stops-marked.new.acts =
    ap (λ (z : List NcAct). length z) c.write-serialized.ensures.acts
    ∙ length-set c.write_stops-marked.new.acts c.write_stops-marked.result c.serialize.result in
    let rest = put_all (marks_if false marks c.args.base) c.args.base (replicate {A = ℕ} len 244) c.write-serialized.new.acts
    c.write-serialized.result len c.write_stops-count.new.acts c.write_stops-count.result end c.write_stops-count.ensures in
    omega (
      arith,
      one.len,
      one.counted,
      same,
      c.write-serialized.ensures.count,
      rest.len,
      rest.counted,
      c.requires.room,
      both_of_delete marks c.args.base len,
    )

pub returns : goal.returns
returns g c = λ text stand.
    deletion_written (g.C.ReadChunk.marks c.args.chunk.now) text c.args.base (length (g.C.ReadChunk.code c.args.chunk.now)) c.args.acts.now
    c.write_stops-marked.new.acts c.write-serialized.new.acts c.write_stops-count.new.acts c.write.new.acts c.write_stops-marked.result
    c.write-serialized.result c.write_stops-count.result c.write_stops-marked.ensures
    (c.write-serialized.ensures.acts ∙ ap (λ (a : NcAct). set c.write_stops-marked.new.acts c.write_stops-marked.result a) c.serialize.ensures)
    c.write-serialized.ensures.count c.write_stops-count.ensures
    (c.write.ensures.acts ∙ ap (λ (a : NcAct). set c.write_stops-count.new.acts c.write_stops-count.result a) c.bump.ensures)
    c.requires.room stand

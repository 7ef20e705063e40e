use Rattle.std.proofs.Common.{set, ap, ◌∙◌}
use Rattle.nc_host_acts.specs.declared.act.NcAct.{NcAct}
use Rattle.nc_host_acts.proofs.writing.RunWhole.{deletion_runs}
use Rattle.nc_host_acts.proofs.runs.write_deletion_runs.Goals as goal

pub returns : goal.returns
returns g c = λ text stand.
    deletion_runs (g.C.ReadChunk.marks c.args.chunk.now) text c.args.base (g.C.ReadChunk.code c.args.chunk.now) c.args.acts.now
    c.write_runs-marked.new.acts c.write-serialized.new.acts c.write_runs-count.new.acts c.write.new.acts c.write_runs-marked.result
    c.write-serialized.result c.write_runs-count.result c.write_runs-marked.ensures.added c.write_runs-marked.ensures.len
    c.write_runs-marked.ensures.count
    (c.write-serialized.ensures.acts ∙ ap (λ (a : NcAct). set c.write_runs-marked.new.acts c.write_runs-marked.result a) c.serialize.ensures)
    c.write-serialized.ensures.count c.write_runs-count.ensures.added c.write_runs-count.ensures.len c.write_runs-count.ensures.count
    (c.write.ensures.acts ∙ ap (λ (a : NcAct). set c.write_runs-count.new.acts c.write_runs-count.result a) c.bump.ensures)
    c.requires.room stand

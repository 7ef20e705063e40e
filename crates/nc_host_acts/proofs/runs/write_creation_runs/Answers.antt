use Rattle.std.proofs.Common.{◌≡◌, ℕ, length, set, ap, ◌∙◌}
use Rattle.nc_acts.specs.declared.acts.Act.TheVariants.{MarkSpan}
use Rattle.nc_acts.specs.declared.acts.Entry.TheVariants.{Did}
use Rattle.nc_host_acts.specs.declared.act.NcAct.{NcAct}
use Rattle.nc_host_acts.specs.Shown.{entry_of}
use Rattle.nc_host_acts.proofs.writing.RunWhole.{creation_runs}
use Rattle.nc_host_acts.proofs.runs.write_creation_runs.Goals as goal

pub returns : goal.returns
returns g c =
    let code = g.C.ReadChunk.code c.args.chunk.now in
    let here : c.mark_span.result ≡ entry_of (Did (MarkSpan c.args.base (length code))) =
    c.mark_span.ensures ∙ ap (λ (n : ℕ). entry_of (Did (MarkSpan c.args.base n))) c.len.ensures in
    creation_runs c.args.base code c.args.acts.now c.write_runs-count.new.acts c.write-serialized.new.acts c.write-marked.new.acts
    c.write_runs.new.acts c.write_runs-count.result c.write-serialized.result c.write-marked.result c.write_runs.result
    c.write_runs-count.ensures.added c.write_runs-count.ensures.len c.write_runs-count.ensures.count
    (c.write-serialized.ensures.acts ∙ ap (λ (a : NcAct). set c.write_runs-count.new.acts c.write_runs-count.result a) c.serialize.ensures)
    c.write-serialized.ensures.count
    (c.write-marked.ensures.acts ∙ ap (λ (a : NcAct). set c.write-serialized.new.acts c.write-serialized.result a) here)
    c.write-marked.ensures.count c.write_runs.ensures.added c.write_runs.ensures.count c.requires.room

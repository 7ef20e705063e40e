use Rattle.std.proofs.Common.{◌+◌, ◌*◌, ◌/◌, ℕ, refl, subst}
use Rattle.nc_acts.specs.Log.{log_of_delete}
use Rattle.nc_host_acts.specs.Runs.{HasRuns, runs_of_delete}
use Rattle.nc_host_handles.specs.Lent.{bytes_of_span}
use Rattle.nc_host_handles.proofs.SpanReads.{span_long, span_high, span_whole, span_runs}
use Rattle.nc_host_handles.proofs.run_calls.report_deletion_runs.Goals as goal

pub returns : goal.returns
returns c =
    let span = c.args.span.now in
    let marks = span.region.now.marked.marks in
    let bytes = bytes_of_span span.region.now.marked.bytes span.base span.length in
    subst (λ (n : ℕ). HasRuns c.args.acts.now c.write_deletion_runs.new.acts (2 * (n / 32) + 2) span.base bytes
    (runs_of_delete marks span.base n) (log_of_delete marks span.base n))
    (span_long span.region.now.marked.bytes span.base span.length span.placed) (c.write_deletion_runs.ensures marks (λ k lt. refl))

pub write_deletion_runs-requires-clause-high : goal.write_deletion_runs-requires-clause-high
write_deletion_runs-requires-clause-high c = span_high c.args.span.now.region.now.marked.bytes _ _ c.args.span.now.placed

pub write_deletion_runs-requires-clause-whole : goal.write_deletion_runs-requires-clause-whole
write_deletion_runs-requires-clause-whole c = span_whole c.args.span.now.region.now.marked.bytes _ _ c.args.span.now.placed

pub write_deletion_runs-requires-clause-room : goal.write_deletion_runs-requires-clause-room
write_deletion_runs-requires-clause-room c = span_runs c.args.span.now.region.now.marked.bytes _ _ _ c.args.span.now.placed c.requires

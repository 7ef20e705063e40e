use Rattle.std.proofs.Common.{◌+◌, ◌*◌, ◌/◌, ℕ, subst}
use Rattle.nc_acts.specs.Log.{log_of_create}
use Rattle.nc_host_acts.specs.Runs.{HasRuns, runs_of_create}
use Rattle.nc_host_handles.specs.Lent.{bytes_of_span}
use Rattle.nc_host_handles.proofs.SpanReads.{span_long, span_high, span_whole, span_runs}
use Rattle.nc_host_handles.proofs.run_calls.report_creation_runs.Goals as goal

pub write_creation_runs-requires-clause-high : goal.write_creation_runs-requires-clause-high
write_creation_runs-requires-clause-high c = span_high c.args.span.now.region.now.marked.bytes _ _ c.args.span.now.placed

pub write_creation_runs-requires-clause-whole : goal.write_creation_runs-requires-clause-whole
write_creation_runs-requires-clause-whole c = span_whole c.args.span.now.region.now.marked.bytes _ _ c.args.span.now.placed

pub write_creation_runs-requires-clause-room : goal.write_creation_runs-requires-clause-room
write_creation_runs-requires-clause-room c = span_runs c.args.span.now.region.now.marked.bytes _ _ _ c.args.span.now.placed c.requires

pub returns : goal.returns
returns c =
    let span = c.args.span.now in
    let bytes = bytes_of_span span.region.now.marked.bytes span.base span.length in
    subst (λ (n : ℕ). HasRuns c.args.acts.now c.write_creation_runs.new.acts (2 * (n / 32) + 2) span.base bytes
    (runs_of_create span.base bytes) (log_of_create span.base bytes))
    (span_long span.region.now.marked.bytes span.base span.length span.placed) c.write_creation_runs.ensures

-- What proofs of the crates above may use of this crate: what is pending for runs, and a chunk in a region after its creation. The
-- other files are private.
pub use Rattle.nc_host_handles.proofs.Reporting.{still_none}
pub use Rattle.nc_host_handles.proofs.RunsPending.{create_runs_due, delete_runs_due}
pub use Rattle.nc_host_handles.proofs.OneChunk.{one_of_base}
pub use Rattle.nc_host_handles.proofs.SpanReads.{span_put, chunk_span}

-- What proofs of the crates above may use of this crate: places beside a span, puts and what they log, and why the text is
-- closed while a span gets a chunk or stops. The other files are private.
pub use Rattle.nc_acts.proofs.Places.{unused_is_start, unused_at_start, is_inside_false, is_start_false, start_or_not, before_span}
pub use Rattle.nc_acts.proofs.Places.{within_span, is_inside_true, is_start_true}
pub use Rattle.nc_acts.proofs.Chosen.{puts_append, next_put, next_passed}
pub use Rattle.nc_acts.proofs.Logged.{told_logged, acts_back, deleted_acts, acts_join, acts_before, logs_more, logs_none}
pub use Rattle.nc_acts.proofs.Logged.{logs_acts, created_acts, logs_after, log_put, ends_serialized}
pub use Rattle.nc_acts.proofs.Alone.{alone, alone_fits_bytes, alone_within, alone_before, alone_behind, alone_bytes_long}
pub use Rattle.nc_acts.proofs.Alone.{alone_marks_long}
pub use Rattle.nc_acts.proofs.Joining.{Joins, chunk_joins, chunk_keeps}
pub use Rattle.nc_acts.proofs.Creating.{IsFinalBut, inside_closed, final_but_closed, final_but_starts, final_all, starts_final}
pub use Rattle.nc_acts.proofs.Stopping.{same_code, all_stops, admits_is_mark}
pub use Rattle.nc_acts.proofs.SoFar.{bit_is_mark}

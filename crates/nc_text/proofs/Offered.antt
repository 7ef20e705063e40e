-- What proofs of the crates above may use of this crate: lemmas on closed and confined texts, on what stands at a place, on spans,
-- and on bytes put one at a time. The other files are private.
pub use Rattle.nc_text.proofs.Closing.{executes, safe_if_executes, leads_of, executes_stop, no_step_from_stop, Borrows}
pub use Rattle.nc_text.proofs.Closing.{step_borrowed, closed_by_parts, closed_with_stops}
pub use Rattle.nc_text.proofs.Confined.{IsKnown, safe_if_known, plain_is_marked, start_is_marked, confined_if_closed}
pub use Rattle.nc_text.proofs.Fetch.{length_at, stop_at}
pub use Rattle.nc_text.proofs.Fresh.{marked_within, new_is_text, unused_closed}
pub use Rattle.nc_text.proofs.SpanElements.{length-with_span, is_with_span, get_or-with_span_in, get_or-with_span_below, get_or-with_span_above}
pub use Rattle.nc_text.proofs.Closing.{step_of, closed_after_put}
pub use Rattle.nc_text.proofs.Fetch.{KeepsBytes, same_instruction}
pub use Rattle.nc_text.proofs.HeadlineStates.{stands_if_safe}
pub use Rattle.nc_text.proofs.BitPlaces.{doubled_low, doubled_high}
pub use Rattle.nc_text.proofs.SpanPlaces.{Before, Within, Behind, place_of, span_within, span_before, span_behind}
pub use Rattle.nc_text.proofs.OneMoreByte.{put_none, put_more, put_passed, byte_at_other, byte_at_same}

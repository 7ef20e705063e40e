-- What proofs of the crates above may use of this crate: the law of walks, lemmas on each member of a list, and, for the law of
-- calls, what stands in the text between the acts of a call and why it is closed; and a region that each call leaves. The
-- other files are private.
pub use Rattle.nc_region.proofs.walking.OneWalk.{one_trace}
pub use Rattle.nc_region.proofs.chunks.Inserting.{unused_if_apart, region_with_chunk, region_of_new}
pub use Rattle.nc_region.proofs.chunks.Pieces.{valid_chunk_is_closed, chunk_names_registers}
pub use Rattle.nc_region.proofs.chunks.Ascending.{ascending_get}
pub use Rattle.nc_region.proofs.deleting.Deleted.{region_deleted, listed_there}
pub use Rattle.nc_region.proofs.deleting.Due.{due_dead}
pub use Rattle.nc_region.proofs.deleting.Progress.{freed_from, freed_past, progressed}
pub use Rattle.nc_region.proofs.deleting.QuietSpans.{quiet_chunks, quiet_spans}
pub use Rattle.nc_region.proofs.patching.Runs.{held_same}
pub use Rattle.nc_region.proofs.patching.Standing.{lies, all_long, Standing, stands_with}
pub use Rattle.nc_region.proofs.patching.Exchanged.{Changes, changed, changed_holds, changed_text, changes_replace}
pub use Rattle.nc_region.proofs.patching.Patched.{region_patched}
pub use Rattle.nc_region.proofs.patching.Replacing.{patch_started, patching_from_put, patching_over, patch_final}
pub use Rattle.nc_region.proofs.patching.Replacing.{single_span}
pub use Rattle.nc_region.proofs.patching.Turns.{turn, next_patch, spans_join, stands_same, same_stands, stands_first}
pub use Rattle.nc_region.proofs.patching.OneInstruction.{log_of_one}
pub use Rattle.nc_region.proofs.deleting.Freed.{region_freed}
pub use Rattle.nc_region.proofs.patching.NewInstructions.{Parted, parted, not_found, none_of_none, span_none}
pub use Rattle.nc_region.proofs.patching.Exchanging.{Where, Here, Earlier, Later, where_is}
pub use Rattle.nc_region.proofs.events.Unmarking.{shut_if_quiet, freed_was}
pub use Rattle.nc_region.proofs.events.Invariant.{Keeps}
pub use Rattle.nc_region.proofs.events.Schedules.{keeps_event, keeps_all, keeps_reached, safe_after, none_is_within_freed}
pub use Rattle.nc_region.proofs.events.Schedules.{allowed_append, allowed_front, after_append}
pub use Rattle.nc_region.proofs.events.Seeing.{as_it_stands, only_as_it_stands, views_after_put}
pub use Rattle.nc_region.proofs.events.WriterEvents.{may_free_now, same_as_itself}
pub use Rattle.nc_region.proofs.Constructing.{deleted_region, deleted_at, deleted_exists, created_region}
pub use Rattle.nc_region.proofs.Constructing.{created_at, created_exists}
pub use Rattle.nc_region.proofs.Constructing.{pages_made, pages_get_ready, patched_region, patched_exists}
pub use Rattle.nc_region.proofs.Constructing.{reclaimed_region, reclaimed_exists}

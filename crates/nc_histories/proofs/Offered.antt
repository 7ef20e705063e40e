-- What proofs of the crates above may use of this crate: what a history keeps from one call to the next, and what each call leads
-- to. The other files are private.
pub use Rattle.nc_histories.proofs.Entries.{events_of, log_append, create_is, stops_of, stops_then, instruction_events, events_of_instructions, patch_is}
pub use Rattle.nc_histories.proofs.Trying.{attempts_again, attempts_none}
pub use Rattle.nc_histories.proofs.OneMoreCall.{Grows, goes_on, created, deleted}
pub use Rattle.nc_histories.proofs.Patched.{patched}
pub use Rattle.nc_histories.proofs.Reclaimed.{reclaimed}
pub use Rattle.nc_histories.proofs.Instances.{begins_unused, refused}
pub use Rattle.nc_histories.proofs.Looking.{KeeperOnly, keeper_interleaved}
pub use Rattle.nc_histories.proofs.StillRegion.{still_created, still_patched, still_deleted, still_reclaimed}
pub use Rattle.nc_histories.proofs.Refusals.{refusal_same, refusal_silent}
pub use Rattle.nc_histories.proofs.Knowing.{knows_as_much, knows_raised}
pub use Rattle.nc_histories.proofs.StaysWhole.{IsWholeIn, StaysWhole, whole_serialized, whole_append, whole_front}
pub use Rattle.nc_histories.proofs.Fetching.{fetch_whole_after}
pub use Rattle.nc_histories.proofs.AllTurns.{Stays, same_region, call_stays, all_stand}
pub use Rattle.nc_histories.proofs.WordSteps.{KnowsSteps, knows_first, knows_more, looks_or_not, steps_append}
pub use Rattle.nc_histories.proofs.CallSteps.{call_steps}
pub use Rattle.nc_histories.proofs.lives.WithoutPatch.{lives}

-- What proofs of the crates above may use of this crate: how many passes a new table has, that a keeper's least number is at most
-- each bound that stays, what a keeper's steps make of its numbers, what a look finds, and how trails rise. The other files are
-- private.
pub use Rattle.nc_gens.proofs.FirstTable.{length-new_passes}
pub use Rattle.nc_gens.proofs.LeastNumber.{least_below}
pub use Rattle.nc_gens.proofs.Trails.{one_last, after_both, IsNoTake, same_raises, keeper_untouched, raised_steps, no_steps, steps_both, as_many_by}
pub use Rattle.nc_gens.proofs.Rising.{LowersNone, lowers_none, rising_none, rising_more}
pub use Rattle.nc_gens.proofs.Loads.{found_after, unfiltered, loads_each, each_loaded, is_before, past_from}

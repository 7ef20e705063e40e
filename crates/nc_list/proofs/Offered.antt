-- What proofs of the crates above may use of this crate: lemmas on each member of a list, on chunks by ascending base, and on those that
-- are due. The other files are private.
pub use Rattle.nc_list.proofs.Ascending.{ascending_lower, ascending_above, ascending_rest, ascending_apart, meets_rest}
pub use Rattle.nc_list.proofs.Leaving.{kept_and_freed, taken_long}
pub use Rattle.nc_list.proofs.Taking.{freed_append, kept_append, all_stay, taken_nothing}

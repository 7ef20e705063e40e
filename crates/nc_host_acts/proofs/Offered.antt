-- What proofs of the crates above may use of this crate: one more element of a buffer, and the entries of two lists of runs. The
-- other files are private.
pub use Rattle.nc_host_acts.proofs.writing.RunLists.{entries_append}

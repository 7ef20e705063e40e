-- What proofs of the crates above may use of this crate: what a pool has found for its places. The other files are private.
pub use Rattle.nc_work.proofs.Places.{places_hold}

-- What proofs of the crates above may use of this crate: its laws, and lemmas on pieces, marks, targets and lanes. The other files are
-- private.
pub use Rattle.nc_vet.proofs.OneFault.{none_valid}
pub use Rattle.nc_vet.proofs.OneVerdict.{one_fault, one_reading}
pub use Rattle.nc_vet.proofs.OneReading.{one_at_front, same_pieces, none_after}
pub use Rattle.nc_vet.proofs.Stuck.{none_cut}
pub use Rattle.nc_vet.proofs.Splits.{split_none, split_push}
pub use Rattle.nc_vet.proofs.Pieces.{code_of-append, place-push, place-append, marks_of-append, spelled_after, length-marks_of, valid_len}
pub use Rattle.nc_vet.proofs.Pieces.{front_cut}
pub use Rattle.nc_vet.proofs.MarkedPlaces.{Begins, marked, mark_at, first_plain, plain_entry, entry_plain}
pub use Rattle.nc_vet.proofs.MarkedPlaces.{target_inside, plain_inside, target_outside, starts_outside}
pub use Rattle.nc_vet.proofs.LaneBits.{compared, equal_small, equal_bit, loaded}
pub use Rattle.nc_vet.proofs.BundleStates.{length-states_after, bundle_size, bundle_byte}

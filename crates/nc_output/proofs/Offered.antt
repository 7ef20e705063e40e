-- What proofs of the crates above may use of this crate: lemmas on bytes that were added to others, and on bytes that differ.
pub use Rattle.nc_output.proofs.Added.{added, added_all, three_added, moves_front, eqb_no}
pub use Rattle.nc_output.proofs.Additions.{all_both, adds_both, line_added, line_details, escaped_plain}

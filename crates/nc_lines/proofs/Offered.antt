-- What proofs of the crates above may use of this crate: lemmas on what is kept of a line and on the words of a text. The other
-- files are private.
pub use Rattle.nc_lines.proofs.Kept.{read_of_kept}
pub use Rattle.nc_lines.proofs.FirstWords.{words_some, of_one, of_one-text, address_in-spaced}

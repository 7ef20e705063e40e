-- What proofs of the crates above may use of this crate: its laws, what grows with a profile, and lemmas on tests and
-- bits. The
-- other files are private.
pub use Rattle.nc_decode.proofs.fronts.FrontLaws.{exact, prefix_free, stop_first, has_its_length, depends_on_its_bytes}
pub use Rattle.nc_decode.proofs.fronts.FrontLaws.{masks_only_before_next, names_registers, masks_exactly, goes_on_after_prefix}
pub use Rattle.nc_decode.proofs.fronts.FrontLaws.{never_barred, never_barred_at_front}
pub use Rattle.nc_decode.proofs.fronts.TransferBytes.{direct_begins}
pub use Rattle.nc_decode.proofs.reading.Readings.{spells_some}
pub use Rattle.nc_decode.proofs.stages.Runs.{reads_by_states, none_is_paired}
pub use Rattle.nc_decode.proofs.stages.Stages.{next_small}
pub use Rattle.nc_decode.proofs.fronts.Growth.{IsPartOf, first_is_part, spelled_by_more}
pub use Rattle.nc_decode.proofs.stages.BundleWords.{start_word, second_word, length-marks_in, marks_in-at}
pub use Rattle.nc_decode.proofs.stages.BundleWords.{bit_passed}

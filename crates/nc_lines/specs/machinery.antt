-- Machinery of the proofs, cited by no public contract: the progress of a run, lines gathered to be vetted, and a table of digits.
pub mod Progress
pub mod Batch
pub mod Digits

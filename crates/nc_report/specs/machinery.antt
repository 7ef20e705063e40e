-- Machinery of the proofs, cited by no public contract: what was added, counted and written so far.
pub mod Added
pub mod Found
pub mod Counts
pub mod Runs
pub mod CountedFault
pub mod Texts
pub mod Members
pub mod Transfers

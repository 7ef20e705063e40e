-- Machinery of the proofs, cited by no public contract: a run over bundles, and one step of reading and of judging.
pub mod Running
pub mod Scans
pub mod Judged
pub mod Lists
pub mod Steps

-- Machinery, cited by no public contract: puts and runs written so far.
pub mod Writing
pub mod Running

-- Machinery of the proofs, cited by no public contract: the states and values that a session represents.
pub mod Session
pub mod Seats
pub mod Shown

-- Machinery of the proofs, cited by no public contract: the classes of bundles by the automaton, and what was read so far.
pub mod Seen
pub mod FastPath

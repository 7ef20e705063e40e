-- Machinery of the proofs, cited by no public contract: how the code reads an instruction, byte by byte.
pub mod Entries
pub mod Shapes
pub mod Reading

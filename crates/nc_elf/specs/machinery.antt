-- Machinery of the proofs, cited by no public contract: what a pass over program headers or entries knows so far.
pub mod Pass

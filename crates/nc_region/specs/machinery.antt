-- Machinery of the proofs, cited by no public contract: texts between two acts, creations, parts of a patch, and freeing
-- chunks that are due.
pub mod Between
pub mod Creating
pub mod PatchSteps
pub mod Freeing

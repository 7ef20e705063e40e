-- Texts while instructions are replaced, and what a patch has done.
pub mod Replacing
pub mod NewInstructions
pub mod Standing
pub mod Exchanging
pub mod Exchanged
pub mod Turns
pub mod Sparing
pub mod Runs
pub mod Lengths
pub mod OneInstruction
pub mod Patched
pub mod Told

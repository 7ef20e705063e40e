pub mod Chunks
pub mod Stamps
pub mod Entries
pub mod Parts

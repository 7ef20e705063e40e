pub mod Interleaving
pub mod Steps
pub mod Views
pub mod Calls
pub mod Histories
pub mod Whole
pub mod Example
pub mod Progress

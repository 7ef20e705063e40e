-- Stops, retired spans, and what is freed.
pub mod QuietSpans
pub mod Freed
pub mod Due
pub mod Least
pub mod TakingOut
pub mod Deleted
pub mod Progress

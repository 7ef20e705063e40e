pub mod Shown
pub mod Outcomes
pub mod Handles
pub mod Looks
pub mod Walked
pub mod Running
pub mod Files

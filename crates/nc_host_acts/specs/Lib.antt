pub mod machinery
pub mod Shown
pub mod Runs
pub mod Written
pub mod Standing

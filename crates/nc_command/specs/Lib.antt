pub mod Checking
pub mod Range
pub mod Start
pub mod Status

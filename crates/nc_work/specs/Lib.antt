pub mod Verdicts
pub mod Outcomes
pub mod Places
pub mod Found

pub mod Parts
pub mod Reports
pub mod Places
pub mod Files
pub mod Outcomes

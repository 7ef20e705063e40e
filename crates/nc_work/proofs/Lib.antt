pub mod Offered
mod Places
mod Outcomes

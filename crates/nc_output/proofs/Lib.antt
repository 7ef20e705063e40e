pub mod Offered
pub mod Additions
pub mod Added

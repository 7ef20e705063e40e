pub mod writing
pub mod Offered

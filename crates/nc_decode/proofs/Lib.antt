pub mod Offered
pub mod opcodes
pub mod reading
pub mod fronts
pub mod stages

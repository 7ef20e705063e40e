pub mod Hosts
pub mod Turns

pub mod machinery
pub mod Lent
pub mod RunCalls
pub mod RegionHandle
pub mod Pending

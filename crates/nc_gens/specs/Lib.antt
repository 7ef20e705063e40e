pub mod machinery
pub mod Rule
pub mod Trail
pub mod Record
pub mod Progress
pub mod Seen

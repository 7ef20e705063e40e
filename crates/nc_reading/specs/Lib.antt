pub mod machinery
pub mod Lengths
pub mod Reading
pub mod Quiet

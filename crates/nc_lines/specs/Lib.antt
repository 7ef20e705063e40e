pub mod machinery
pub mod Lines
pub mod Words
pub mod Replying
pub mod Vetting

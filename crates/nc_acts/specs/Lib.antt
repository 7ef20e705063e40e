pub mod Acts
pub mod Log
pub mod Noted
pub mod Plain
pub mod Chunks

pub mod Header
pub mod Segments
pub mod Sections
pub mod Symbols
pub mod Faults
pub mod machinery

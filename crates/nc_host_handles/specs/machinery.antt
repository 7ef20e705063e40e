-- Definitions that only private contracts cite, and what the C structs with a pointer own.
pub mod Attending
pub mod Window
pub mod Pointer
pub mod RegionPointer
pub mod SeatPointer
pub mod VettedPointer

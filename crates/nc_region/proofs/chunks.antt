-- Valid chunks, by themselves and set into a text, and the list of them.
pub mod Instructions
pub mod Offsets
pub mod Sound
pub mod Pieces
pub mod Ascending
pub mod AgreesOutside
pub mod Inserting
pub mod ReadyPlaces

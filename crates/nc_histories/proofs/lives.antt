-- Histories of a chunk's life.
pub mod Refilled
pub mod TextEvents
pub mod OneSeat
pub mod LastTurns
pub mod FirstTurn
pub mod WithoutPatch
pub mod WithPatch

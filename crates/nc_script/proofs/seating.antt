-- The seats of a script beside the passes and the keeper.
pub mod Passes
pub mod SeatStates
pub mod Reclaims
pub mod Reclaimed
pub mod FirstState

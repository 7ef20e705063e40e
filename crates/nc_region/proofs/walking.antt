-- Steps of a walk.
pub mod Windows
pub mod Walking
pub mod OneWalk

-- What every event of a schedule keeps.
pub mod Unmarking
pub mod Seeing
pub mod Invariant
pub mod ThreadEvents
pub mod WriterEvents
pub mod Schedules
pub mod Moving

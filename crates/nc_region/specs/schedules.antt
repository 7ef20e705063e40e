-- Schedules: what can happen while threads run, one event at a time. Nothing here refers to chunks.
pub mod Spans
pub mod Views
pub mod World
pub mod Events

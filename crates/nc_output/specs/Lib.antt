pub mod Verdicts
pub mod Adds
pub mod Shown
pub mod Strings
pub mod PipeWriter

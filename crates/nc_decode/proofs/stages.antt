-- What the automaton waits for in each state, and what its runs over a bundle have read.
pub mod Stages
pub mod StageMeanings
pub mod StageSteps
pub mod Runs
pub mod BundleWords

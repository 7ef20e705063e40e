-- Lists of acts written into a buffer, one act after the other.
pub mod Buffers
pub mod PutLists
pub mod WriteSteps
pub mod MarkReads
pub mod WholeLists
pub mod Replacements
pub mod RunLists
pub mod Bundles
pub mod StopPlaces
pub mod RunSteps
pub mod RunWhole

-- The chunks of a script beside those of the region, before and after each call.
pub mod RegionText
pub mod Listed
pub mod Creating
pub mod Fitting
pub mod Patches
pub mod PatchedChunks
pub mod RetiredChunks
pub mod FreedChunks
pub mod SpanDigits
pub mod DumpReply
pub mod NextChunk

-- The reply to each line, and that a line has one reply.
pub mod Serving
pub mod ChunkRequests
pub mod SeatRequests
pub mod LineReplies
pub mod OnlyReply
pub mod OneReply
pub mod Kept
pub mod RequestWords
pub mod Carried

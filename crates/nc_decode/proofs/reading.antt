-- What the code reads is spelled, and what is spelled it reads.
pub mod MoreBytes
pub mod PrefixAndOpcode
pub mod EntryReads
pub mod OperandLengths
pub mod ReadIsSpelled
pub mod SpellingParts
pub mod SpelledIsRead
pub mod Completions
pub mod Readings

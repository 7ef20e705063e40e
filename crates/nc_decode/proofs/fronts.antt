-- The laws of the function that finds the first instruction.
pub mod NeverBarred
pub mod Masks
pub mod GoingOn
pub mod LeadingBytes
pub mod FrontLaws
pub mod TransferBytes
pub mod Growth

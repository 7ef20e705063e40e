-- Definitions that only private contracts cite.
pub mod Masks
pub mod Pages

-- Machinery, cited by no public contract: the invariants of a pass and of the keeper, the kinds of step, and views.
pub mod Fields
pub mod Steps
pub mod Views

pub mod Members
pub mod Tests
pub mod Lists
pub mod Offered

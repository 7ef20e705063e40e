pub mod machinery
pub mod Labels
pub mod Forms
pub mod Outside
pub mod Objects
pub mod Further
pub mod Totals
pub mod Report

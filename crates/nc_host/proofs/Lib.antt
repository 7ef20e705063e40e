mod WrittenMarks
mod Reading
mod Refusals
mod PutBack
mod Accepted
pub mod Admitted

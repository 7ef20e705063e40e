pub mod chunks
pub mod serving
pub mod seating

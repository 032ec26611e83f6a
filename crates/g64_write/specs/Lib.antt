pub mod Master
pub mod Answers

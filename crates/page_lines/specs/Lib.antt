pub mod Tally
pub mod Answers

pub mod Statuses
pub mod Reading
pub mod Answers
pub mod Inside

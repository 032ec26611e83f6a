pub mod Visit
pub mod Answers
pub mod Inside

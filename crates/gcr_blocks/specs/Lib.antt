pub mod Blocks
pub mod Answers
pub mod Before
pub mod Inside

pub mod Meanings
pub mod Marks

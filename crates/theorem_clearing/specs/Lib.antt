pub mod Links
pub mod Meaning

pub mod Page
pub mod Wording

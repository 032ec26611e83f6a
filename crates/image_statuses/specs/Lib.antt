pub mod Statuses
pub mod Symbols

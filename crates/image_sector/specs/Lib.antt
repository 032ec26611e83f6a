pub mod Media
pub mod Callers

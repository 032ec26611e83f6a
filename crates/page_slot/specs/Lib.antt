pub mod Span
pub mod Turn
pub mod Sectors
pub mod Slots

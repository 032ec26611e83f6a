pub mod Slotting
pub mod Longer

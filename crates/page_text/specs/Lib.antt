pub mod Numerals
pub mod Put

pub mod Cut
pub mod TwoSymbols
pub mod Early
pub mod Sound
pub mod Complete
pub mod Theorem
pub mod Survives

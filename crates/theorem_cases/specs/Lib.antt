pub mod Cases
pub mod Slips

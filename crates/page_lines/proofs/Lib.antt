pub mod TallyLaws
pub mod TallyLengths
pub mod Lengths

pub mod TableLaws
pub mod Filling

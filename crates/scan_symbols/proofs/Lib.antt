pub mod FirstLaws
pub mod Bounds

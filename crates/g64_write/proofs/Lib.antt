pub mod Tables
pub mod Tracks
pub mod Whole

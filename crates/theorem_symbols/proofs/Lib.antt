pub mod Telling
pub mod EachBlock
pub mod EveryRing
pub mod BuiltNone

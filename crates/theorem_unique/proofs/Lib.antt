pub mod Once
pub mod Placed
pub mod BuiltUnique

pub mod BuiltUnique

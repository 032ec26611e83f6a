pub mod Sync
pub mod Inside

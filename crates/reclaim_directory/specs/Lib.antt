pub mod Marks
pub mod Disk
pub mod Chains
pub mod Inside

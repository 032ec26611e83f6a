pub mod Draw
pub mod Sum

pub mod Envelopes
pub mod Putting
pub mod Found
pub mod Answer

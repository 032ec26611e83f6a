pub mod Envelope
pub mod Listing
pub mod Inside

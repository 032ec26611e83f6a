pub mod Spans
pub mod Best
pub mod Original

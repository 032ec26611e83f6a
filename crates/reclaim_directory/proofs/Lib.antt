pub mod MarkLaws
pub mod ChainSteps

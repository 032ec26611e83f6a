pub mod MeaningLaws
pub mod MeaningLengths
pub mod MarkLaws

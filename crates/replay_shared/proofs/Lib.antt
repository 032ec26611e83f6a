pub mod DrawLaws
pub mod SumLaws

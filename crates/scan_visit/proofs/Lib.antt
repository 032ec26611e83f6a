pub mod VisitLaws
pub mod MetLaws
pub mod BlockTests
pub mod GroupLaws
pub mod WholeBlock
pub mod SameBits

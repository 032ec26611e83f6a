pub mod Apart
pub mod ChainBound
pub mod ChainLaws
pub mod D64Clearing
pub mod D64Images
pub mod RingsClearing

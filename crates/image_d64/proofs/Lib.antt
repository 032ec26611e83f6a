pub mod PartReads
pub mod D64Sectors
pub mod D64Reads

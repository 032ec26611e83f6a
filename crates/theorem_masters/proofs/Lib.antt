pub mod Bytes
pub mod Parts
pub mod Entries
pub mod Table
pub mod Sectors
pub mod Masters

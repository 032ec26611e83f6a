pub mod SyncLaws
pub mod ChunkLaws

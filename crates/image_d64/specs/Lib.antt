pub mod D64

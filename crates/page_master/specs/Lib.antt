pub mod Master

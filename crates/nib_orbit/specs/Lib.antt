pub mod Orbit

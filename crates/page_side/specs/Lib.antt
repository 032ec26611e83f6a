pub mod Frame
pub mod Arcs
pub mod TrackArcs

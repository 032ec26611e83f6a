pub mod TrackLinesLengths

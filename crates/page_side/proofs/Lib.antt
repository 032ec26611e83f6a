pub mod PictureLengths
pub mod ArcLaws
pub mod ArcsLengths
pub mod TrackArcsLengths

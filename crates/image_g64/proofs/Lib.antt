pub mod G64Laws
pub mod G64Inside

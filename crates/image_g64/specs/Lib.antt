pub mod G64
pub mod Inside

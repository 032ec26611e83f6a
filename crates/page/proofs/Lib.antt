pub mod PieceLaws
pub mod PageLaws

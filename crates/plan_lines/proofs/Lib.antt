pub mod PieceLaws
pub mod LineLaws

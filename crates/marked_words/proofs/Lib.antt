pub mod BackLaws
pub mod PlaceLaws
pub mod ListLaws
pub mod WholeLaws
pub mod FitLaws

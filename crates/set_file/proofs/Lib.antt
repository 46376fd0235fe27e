pub mod RowTests
pub mod CodeLaws
pub mod Laws
pub mod ReadLaws

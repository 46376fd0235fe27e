pub mod LayoutLaws
pub mod SliceLaws

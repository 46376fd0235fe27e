pub mod CellLaws
pub mod SpareLaws
pub mod RowLaws
pub mod PartLaws
pub mod PairLaws
pub mod ListLaws
pub mod DigitLaws
pub mod MarkLaws

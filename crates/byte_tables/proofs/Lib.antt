pub mod MarkLaws
pub mod TableLaws

pub mod SymbolLaws
pub mod FillLaws

pub mod Ties
pub mod Symbols

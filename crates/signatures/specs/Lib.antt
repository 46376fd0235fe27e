pub mod Signature
pub mod Later
pub mod Columns
pub mod Symbols
pub mod Given
pub mod Free
pub mod Sets

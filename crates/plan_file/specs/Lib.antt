pub mod Layout
pub mod Checking
pub mod Reading

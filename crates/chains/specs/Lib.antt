pub mod Driven
pub mod Table

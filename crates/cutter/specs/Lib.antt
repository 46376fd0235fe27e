pub mod Greatest
pub mod Cutting
pub mod Turns

pub mod Working
pub mod Reducing

pub mod Back
pub mod Fitting

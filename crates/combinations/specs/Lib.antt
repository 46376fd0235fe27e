pub mod Combination
pub mod Reduced
pub mod Pass
pub mod Step

-- The definitions of the marked rows.
pub mod Last
pub mod Estimate

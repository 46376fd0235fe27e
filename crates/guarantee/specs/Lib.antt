pub mod Demand
pub mod AtWork
pub mod Runs
pub mod Cuttings

pub mod Laws
pub mod ClockLaws

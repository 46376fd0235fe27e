pub mod ClosedLaws
pub mod MarkedLaws

pub mod BitLaws
pub mod BasisLaws
pub mod SettledLaws
pub mod LoopLaws

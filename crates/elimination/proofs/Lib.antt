pub mod Theorems
pub mod Sixteen
pub mod LoopLaws
pub mod CallLaws

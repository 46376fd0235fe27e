pub mod GreatestLaws
pub mod FrameLaws
pub mod RunLaws
pub mod SameLaws
pub mod SliceLaws
pub mod CallLaws
pub mod Theorems

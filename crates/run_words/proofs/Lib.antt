pub mod SingleLaws
pub mod TurnLaws

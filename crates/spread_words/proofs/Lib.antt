pub mod SpreadLaws
pub mod TurnLaws
pub mod CallLaws

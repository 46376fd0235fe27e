pub mod KeptLaws
pub mod TurnedLaws
pub mod LoopLaws
pub mod CountLaws

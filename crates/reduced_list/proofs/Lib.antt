pub mod PassLaws
pub mod CountLaws
pub mod TopLaws

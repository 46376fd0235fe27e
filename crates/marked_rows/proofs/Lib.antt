pub mod CountLaws
pub mod LastLaws

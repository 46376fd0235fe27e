pub mod WordCount
pub mod TopPass

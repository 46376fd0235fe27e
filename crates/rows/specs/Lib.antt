pub mod Row
pub mod Lists
pub mod Marks

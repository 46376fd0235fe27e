pub mod NumberLaws
pub mod CallLaws
pub mod InARow
pub mod Revised
pub mod Sixteen

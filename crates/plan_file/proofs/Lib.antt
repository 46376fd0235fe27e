pub mod WordPlaces
pub mod TestLaws
pub mod Laws
pub mod CallLaws

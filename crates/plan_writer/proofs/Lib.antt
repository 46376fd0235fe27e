pub mod WriteLaws
pub mod Parts
pub mod RoundTrip

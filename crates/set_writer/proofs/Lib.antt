pub mod WriteLaws
pub mod FileLaws
pub mod RoundTrip

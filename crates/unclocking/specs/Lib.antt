pub mod Unclocked

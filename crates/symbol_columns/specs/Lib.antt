pub mod Powered

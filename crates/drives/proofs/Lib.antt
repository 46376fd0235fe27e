pub mod DriveLaws

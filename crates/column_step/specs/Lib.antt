pub mod Pivot

pub mod ReduceLaws

pub mod SparseLaws

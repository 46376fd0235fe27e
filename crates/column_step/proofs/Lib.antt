pub mod PivotLaws

pub mod BeforeLaws
pub mod HeadLaws

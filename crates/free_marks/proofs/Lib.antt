pub mod CopyLaws
pub mod ClearLaws
pub mod AloneLaws

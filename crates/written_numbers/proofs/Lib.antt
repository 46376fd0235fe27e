pub mod WritingLaws
pub mod BytesLaws

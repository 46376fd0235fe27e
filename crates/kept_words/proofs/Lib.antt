pub mod FreeLaws
pub mod PutLaws
pub mod JoinLaws
pub mod KeptLaws

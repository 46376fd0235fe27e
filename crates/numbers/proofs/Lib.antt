pub mod ByteLaws
pub mod FileLaws
pub mod JoinLaws
pub mod PartLaws

pub mod PrintLaws
pub mod RefusalLaws
pub mod InputLaws

pub mod UnclockLaws

pub mod ContentLaws

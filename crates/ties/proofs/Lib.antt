pub mod EntryLaws
pub mod SymbolLaws
pub mod SoundLaws

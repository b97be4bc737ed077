pub mod PartLaws
pub mod ReplayLaws
pub mod JournalLaws

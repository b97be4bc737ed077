pub mod PartLists
pub mod Watchers

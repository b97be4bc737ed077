pub mod NamedLaws
pub mod Keeping
pub mod ShownLaws
pub mod WatchingLaws
pub mod SaidLaws

pub mod Entries
pub mod Steps
pub mod Around
pub mod StepLaws
pub mod Calls

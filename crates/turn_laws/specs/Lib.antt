pub mod Replayed
pub mod Shown

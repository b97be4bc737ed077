pub mod Noted
pub mod Reached

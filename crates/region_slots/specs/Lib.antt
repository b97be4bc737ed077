pub mod Slots
pub mod Edits
pub mod Told

pub mod Conditions
pub mod Offsets

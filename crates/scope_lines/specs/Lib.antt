pub mod Whys
pub mod Faults

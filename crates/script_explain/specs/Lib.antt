pub mod Told
pub mod Topics
pub mod Faults

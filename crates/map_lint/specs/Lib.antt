pub mod Faults
pub mod Around

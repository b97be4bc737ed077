pub mod Gathered
pub mod Matching

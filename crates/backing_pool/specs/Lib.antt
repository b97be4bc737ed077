pub mod Holes
pub mod Backing

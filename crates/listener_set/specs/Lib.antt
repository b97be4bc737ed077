pub mod Sets
pub mod Switches

pub mod Addresses
pub mod Names
pub mod Parts
pub mod Reads
pub mod Rows
pub mod Texts

pub mod Refusals
pub mod Left
pub mod Reads

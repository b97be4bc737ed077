pub mod Windows
pub mod Calls
pub mod Whole
pub mod Moves
pub mod Copies

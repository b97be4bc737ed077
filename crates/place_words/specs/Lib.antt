pub mod Blocks
pub mod Frames
pub mod Laws
pub mod Unfilled

pub mod Extents
pub mod Kept
pub mod Marks
pub mod Room

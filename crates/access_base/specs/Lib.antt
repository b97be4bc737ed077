pub mod Leaves
pub mod Sizes

pub mod Edges
pub mod Slots
pub mod Texts

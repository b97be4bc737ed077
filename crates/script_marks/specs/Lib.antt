pub mod Marks
pub mod Openings

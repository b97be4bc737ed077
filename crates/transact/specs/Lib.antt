pub mod Desks
pub mod Preparing
pub mod Commits
pub mod Spares
pub mod Marks
pub mod Backed

pub mod Blocks
pub mod Verdicts
pub mod Told
pub mod Checks

pub mod KeptState
pub mod Sweeping

pub mod Maps
pub mod Runs

pub mod Ends
pub mod Racing
pub mod HandedOn

pub mod Notes
pub mod Ledgers
pub mod Released

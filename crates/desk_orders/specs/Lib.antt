pub mod Records
pub mod Receipts
pub mod Given
pub mod Clerks
pub mod Copied
pub mod Differing
pub mod Laws

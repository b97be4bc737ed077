pub mod Names
pub mod Refusals
pub mod Transactions
pub mod Blocks

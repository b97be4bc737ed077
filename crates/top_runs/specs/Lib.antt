pub mod Asks
pub mod KeptText
pub mod ReadScript
pub mod Runs
pub mod Says
pub mod Statuses
pub mod WrittenText

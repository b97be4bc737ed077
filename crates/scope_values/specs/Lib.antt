pub mod Ranges
pub mod Findings
pub mod Steps
pub mod Searches
pub mod Rows
pub mod Topics

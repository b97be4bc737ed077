pub mod Reasons
pub mod Looked
pub mod Seen
pub mod Hops

pub mod Hands
pub mod Runs
pub mod Leaves
pub mod Partial
pub mod Chunks
pub mod RegionPlaces
pub mod WordReplies
pub mod WordsGoOn

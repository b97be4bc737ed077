pub mod Cuts
pub mod Walks
pub mod LiveLists
pub mod Named
pub mod Deliveries
pub mod Priorities
pub mod Untouched

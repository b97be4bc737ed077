pub mod Histories
pub mod Published
pub mod Released
pub mod Replayed
pub mod Numbers
pub mod BackedForests

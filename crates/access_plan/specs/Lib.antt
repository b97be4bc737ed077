pub mod Answering
pub mod HostLaws
pub mod HostPlans
pub mod Lists
pub mod Rounds

pub mod Records
pub mod Settled
pub mod Turned
pub mod Laws
pub mod HandedOn

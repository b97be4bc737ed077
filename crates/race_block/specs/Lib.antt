pub mod Resolving
pub mod Texts
pub mod Lines
pub mod Desks
pub mod Blocks
pub mod Laws
pub mod Joined
pub mod HandedOn

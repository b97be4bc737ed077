pub mod Cleared
pub mod Events
pub mod Hands
pub mod Rests
pub mod RunLaws
pub mod Worlds

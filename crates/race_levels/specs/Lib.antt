pub mod Levels
pub mod Settling
pub mod Ready
pub mod Steps
pub mod ActorLevels
pub mod Outside

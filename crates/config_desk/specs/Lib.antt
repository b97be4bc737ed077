pub mod Configs
pub mod SeenLaws
pub mod Settling
pub mod Tries
pub mod LawfulDesks
pub mod HandedOn

pub mod LevelLists
pub mod SettlingLaws
pub mod ReadyLaws
pub mod StepLaws
pub mod LevelLaws
pub mod StoppingLaws
pub mod ActorLaws
pub mod HandedOn

pub mod PartLaws
pub mod ActorLists

pub mod ReachLaws
pub mod TakenLaws
pub mod ChunkLaws
pub mod CoreLaws
pub mod HandedOn

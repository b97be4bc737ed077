pub mod ListLaws
pub mod DeviceLists
pub mod ChunkLists
pub mod PageLaws
pub mod RoundLaws
pub mod WhoLaws
pub mod HostLaws
pub mod HandedOn

pub mod Values
pub mod AccessRows
pub mod ListenerRows
pub mod WorldRows
pub mod HistoryRows
pub mod TurnRows
pub mod PartRows
pub mod HostRows

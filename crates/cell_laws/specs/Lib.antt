pub mod CellHistory
pub mod TurnCells
pub mod MayFollow
pub mod WriteMarks

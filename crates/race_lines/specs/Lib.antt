pub mod NamedTables
pub mod KnownNames
pub mod LineTasks
pub mod DeskLines
pub mod PassLines

pub mod Writing
pub mod FittingLaws
pub mod DeskLaws
pub mod PassLaws
pub mod RunLaws

pub mod PlanLaws
pub mod FirstRuns
pub mod Sizes
pub mod Parts
pub mod Ways
pub mod ShownRounds
pub mod CoreLaws

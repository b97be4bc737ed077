pub mod BlockLaws
pub mod EndLaws
pub mod TurnRuns
pub mod Shows
pub mod GoingOn

pub mod Fitting
pub mod MadeForests
pub mod Asks
pub mod LawfulRuns
pub mod TaskSteps
pub mod KnownNames
pub mod LineLaws

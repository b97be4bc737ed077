pub mod OutsideRuns
pub mod SoFar
pub mod Acting
pub mod Stopped
pub mod Outside

pub mod ReachLaws
pub mod AlikeLaws
pub mod ClosedLaws

pub mod Forms
pub mod Lines
pub mod Cuts
pub mod Readings
pub mod MarkLaws

pub mod PartLaws
pub mod FrameLaws
pub mod CellLaws
pub mod UnfilledLaws

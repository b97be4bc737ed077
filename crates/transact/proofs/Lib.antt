pub mod MadeLaws
pub mod ShownLaws
pub mod EventLaws
pub mod PlacedLaws
pub mod DeskLaws
pub mod StepLaws
pub mod SpareLaws
pub mod BackedLaws

pub mod WholeLaws
pub mod AddLaws
pub mod RegionLaws
pub mod EditLaws
pub mod PickedLaws

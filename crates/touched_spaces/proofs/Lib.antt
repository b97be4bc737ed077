pub mod ViewedLaws
pub mod TouchedLaws
pub mod StayLaws
pub mod NotedLaws
pub mod LiveLaws
pub mod RegionLaws

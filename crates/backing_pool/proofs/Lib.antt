pub mod HoleLaws
pub mod RunLaws
pub mod EditLaws
pub mod PlaceLaws
pub mod RegionLaws
pub mod PoolLaws

pub mod NearLaws
pub mod FeatureLaws

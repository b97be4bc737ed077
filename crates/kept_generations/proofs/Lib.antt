pub mod ListLaws
pub mod SweepLaws
pub mod FoldLaws

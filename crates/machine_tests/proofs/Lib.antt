pub mod BoardLaws

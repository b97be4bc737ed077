pub mod GatheredLaws
pub mod DifferLaws
pub mod MatchingLaws

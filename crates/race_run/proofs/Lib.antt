pub mod OpeningLaws
pub mod ClosingLaws
pub mod LineLaws
pub mod WritingLaws
pub mod RacingLaws
pub mod HandedOn

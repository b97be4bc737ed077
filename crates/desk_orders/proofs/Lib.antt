pub mod ShownCalls
pub mod PublishedLaws
pub mod AnswerLaws
pub mod RecordLaws
pub mod StayLaws
pub mod PlaceLaws
pub mod DifferLaws
pub mod Giving

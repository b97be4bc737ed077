pub mod MarksLeft
pub mod Apart

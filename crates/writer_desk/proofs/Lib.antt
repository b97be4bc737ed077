pub mod HeardLaws
pub mod HeldLaws
pub mod ReadyLaws
pub mod ListenedLaws
pub mod WriterLaws
pub mod HandedOn

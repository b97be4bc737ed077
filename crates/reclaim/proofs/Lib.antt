pub mod NoteLaws
pub mod LedgerLaws
pub mod ReleasedLaws

pub mod MarkLaws
pub mod PageLaws

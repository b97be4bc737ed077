pub mod PlacedLaws
pub mod ShownLaws
pub mod TableLaws
pub mod HandedOn

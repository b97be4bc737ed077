mod CommentLaws
mod RegionLaws
mod NameLaws
mod AlikeLaws
pub mod HandedOn

pub mod EdgeLaws
pub mod PieceLaws
pub mod TableLaws

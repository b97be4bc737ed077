pub mod RunLaws
pub mod SayLaws

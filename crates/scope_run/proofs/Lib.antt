pub mod Facts
pub mod Parts
pub mod TableLaws
pub mod FileLaws
mod ExplainLaws
mod MonitorLaws
pub mod HandedOn

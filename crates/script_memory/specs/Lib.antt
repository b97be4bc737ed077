pub mod Comments
pub mod Regions
pub mod Told
pub mod Alike
pub mod HandedOn

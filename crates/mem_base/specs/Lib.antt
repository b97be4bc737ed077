pub mod lists
pub mod map
pub mod views
pub mod access
pub mod machine
pub mod script
pub mod Texts

pub mod Dash
pub mod App
pub mod Agrees
pub mod Reads

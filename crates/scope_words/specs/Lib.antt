pub mod Requests
pub mod App
pub mod Asks

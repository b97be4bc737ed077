pub mod Starts
pub mod Ran
pub mod Laws
pub mod Rooms
pub mod Seats
pub mod Texts
pub mod Blocks

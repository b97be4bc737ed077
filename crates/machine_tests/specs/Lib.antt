pub mod Boards
pub mod Ready

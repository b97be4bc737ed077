pub mod Asking
pub mod Reaching
pub mod DevicePieces
pub mod Rounds
pub mod Doing

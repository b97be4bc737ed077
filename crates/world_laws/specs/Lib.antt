pub mod Standing
pub mod Entered
pub mod Legal
pub mod Accessing

-- Flat views, how they change, and what listeners are told.
pub mod View
pub mod Slices
pub mod Notes
pub mod Flattened
pub mod Naming
pub mod Walk
pub mod Replay
pub mod LiveEvents
pub mod Listening

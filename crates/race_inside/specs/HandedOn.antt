-- What this crate hands on of the crates below it: who takes these names from here need not list those crates.
pub use Rattle.race_join.specs.HandedOn.{IsUnused, ConfigState, RecordState, IsLater}
pub use Rattle.race_levels.specs.Levels.{IsOfCabinet}
pub use Rattle.race_levels.specs.Outside.{sizes_of, stand_of}
pub use Rattle.race_levels.specs.Ready.{AreReady}

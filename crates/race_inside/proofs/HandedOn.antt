-- What this crate hands on of the crates below it: who takes these names from here need not list those crates.
pub use Rattle.race_join.proofs.HandedOn.{later_joins, later_same}
pub use Rattle.race_join.specs.HandedOn.{ConfigState, RecordState, IsLater, IsUnused}
pub use Rattle.race_levels.proofs.HandedOn.{IsInItsGeneration}
pub use Rattle.race_levels.specs.Outside.{StepsOn, StopsIn, WritesOn, sizes_of, stand_of}
pub use Rattle.race_levels.specs.Ready.{AreReady}

-- What this crate hands on of the crates below it: who takes these names from here need not list those crates.
pub use Rattle.transact.specs.Backed.{BackedState, places_for, forest_at, backed_state, backing_at, backing_without, all_places}
pub use Rattle.transact.specs.Preparing.{Readied, when_done, AreDeskPlaces}
